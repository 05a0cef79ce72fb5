-- The entries that a crash leaves are those that come, in the order of their names.
use Rattle.std.proofs.Common.{◌≡◌, ◌<◌, ◌++◌, ℕ, zero, suc, Bool, true, false, List, [], ◌∷◌, map, reverse, length, Option, Some, None, refl, sym, ◌∙◌, ap, subst, bytes_eq, slice_get, get_or, option_map, if◌then◌else◌, ◌&&◌, nat_lt, arith}
use Rattle.std.proofs.lemmas.Bool.{ltb-true, ltb-false}
use Rattle.std.proofs.lemmas.Cmp.{nat_list_cmp_total}
use Rattle.std.proofs.lemmas.List.{reverse-append, reverse-reverse}
use Rattle.std.proofs.lemmas.Map.Entries.{btree_map_get_place}
use Rattle.std.proofs.lemmas.Map.Keys.{Less-from_sorted}
use Rattle.std.proofs.lemmas.Option.{slice_get_within, slice_get-map, get_or_from_slice_get}
use Rattle.std.proofs.lemmas.Map.Text.{is_eq-slice_cmp}
use Rattle.std.proofs.lemmas.Slice.Eq.{bytes_eq-Decides}
use Rattle.std.specs.Cmp.Lexicographic.{slice_cmp}
use Rattle.std.specs.Ordering.{nat_cmp, is_eq}
use Rattle.std.specs.declared.cmp.Ordering.TheVariants.{Less}
use Rattle.std.specs.List.{AllByRecursion}
use Rattle.std.specs.List.Sorted.{IsStrictlySortedBy}
use Rattle.std.specs.Map.{keys_of, lookup}
use Rattle.std.specs.BTreeMap.{BTreeMap, IsOrdered, is_at}
use Rattle.zi_tree.specs.Dir.{Dir}
use Rattle.zi_shelf.specs.Names.{Name}
use Rattle.zi_shelf.specs.Shelved.{Top}
use Rattle.zi_shelf.specs.Crash.{Source, removed}
use Rattle.zi_memory.specs.Memory.{top_of, tops_of, later_of, are_apart, is_before}
use Rattle.zi_memory.specs.Comers.{at, pending_of, best, all_comers, removed_tops, ArePlaces, moved, no_entry}
use Rattle.zi_memory.specs.declared.top_entry.TopEntry.{TopEntry}
use Rattle.zi_memory.specs.declared.top_entry.Later.{Later}
use Rattle.zi_memory.specs.declared.top_entry.Later.TheVariants.{RenamedTop, RemovedTop}
use Rattle.zi_memory.specs.declared.crash.Comer.{Comer}
use Rattle.zi_memory.specs.declared.crash.Pick.{Pick}
use Rattle.zi_memory.specs.Picked.{IsPicked}
use Rattle.zi_shelf.proofs.TopsLemmas.{test_refl}
use Rattle.zi_memory.proofs.PickedLemmas.{removed_trees, best_in, comer_from, places_apart, trees_at, shelf_is, picked}

pub along : {A B : Type 0} (v w : A) → v ≡ w → (f : A → B) → f v ≡ f w
along v w e f = ap f e

test_turned : (a b : Name) → bytes_eq a b ≡ bytes_eq b a
test_turned a b =
    elim (bytes_eq a b) as (λ t. (t ≡ true → a ≡ b) → (a ≡ b → t ≡ true) → t ≡ bytes_eq b a) [
      | true ↦ λ h k. sym ((bytes_eq-Decides b a).1 (sym (h refl)))
      | false ↦ λ h k. elim (bytes_eq b a) as (λ t. (t ≡ true → b ≡ a) → false ≡ t) [ true ↦ λ g. absurd (cc (k (sym (g refl)))) | false ↦ λ g. refl ] (bytes_eq-Decides b a).0
    ] (bytes_eq-Decides a b).0 (bytes_eq-Decides a b).1

-- what stands under a name is what the map has
pub tops_left : (srcs : List TopEntry) (es : List (Name × Comer)) (n : Name) → tops_of (map (moved srcs) es) n ≡ option_map (λ (c : Comer). top_of (get_or srcs c.place no_entry)) (lookup (is_at (slice_cmp nat_cmp n)) es)
tops_left srcs [] n = refl
tops_left srcs (e ∷ es) n =
    ap (λ t. if t then Some (top_of (moved srcs e)) else tops_of (map (moved srcs) es) n) (test_turned e.0 n ∙ sym (is_eq-slice_cmp n e.0))
    ∙ elim (is_at (slice_cmp nat_cmp n) e.0) as (λ t. (if t then Some (top_of (moved srcs e)) else tops_of (map (moved srcs) es) n) ≡ option_map (λ (c : Comer). top_of (get_or srcs c.place no_entry)) (if t then Some e.1 else lookup (is_at (slice_cmp nat_cmp n)) es)) [
      | true ↦ refl
      | false ↦ tops_left srcs es n
    ]

-- their names rise
before_left : (srcs : List TopEntry) (n : Name) (es : List (Name × Comer)) → AllByRecursion (λ q. slice_cmp nat_cmp n q ≡ Less) (keys_of es) → is_before n (map (moved srcs) es) ≡ true
before_left srcs n [] h = refl
before_left srcs n (e ∷ es) h = rw (h.0, before_left srcs n es h.1) refl

pub apart_left : (srcs : List TopEntry) (es : List (Name × Comer)) → IsStrictlySortedBy (slice_cmp nat_cmp) (keys_of es) → are_apart (map (moved srcs) es) ≡ true
unfolding IsStrictlySortedBy
apart_left srcs [] h = refl
apart_left srcs (e ∷ es) h = rw (before_left srcs e.0 es h.0, apart_left srcs es h.1) refl

-- the removed entries stand behind the others
tops_removed : List Later → List (Top Dir)
tops_removed [] = []
tops_removed (RenamedTop a b ∷ ls) = tops_removed ls
tops_removed (RemovedTop e ∷ ls) = top_of e ∷ tops_removed ls

map_append : {X Y : Type 0} (f : X → Y) (xs ys : List X) → map f (xs ++ ys) ≡ map f xs ++ map f ys
map_append f [] ys = refl
map_append f (x ∷ xs) ys = ap (λ zs. f x ∷ zs) (map_append f xs ys)

tops_of_removed : (ls : List Later) → map top_of (removed_tops ls) ≡ tops_removed ls
unfolding tops_removed
tops_of_removed [] = refl
tops_of_removed (RenamedTop a b ∷ ls) = tops_of_removed ls
tops_of_removed (RemovedTop e ∷ ls) = ap (λ zs. top_of e ∷ zs) (tops_of_removed ls)

removed_append : (xs : List Later) (l : Later) → tops_removed (xs ++ l ∷ []) ≡ tops_removed xs ++ tops_removed (l ∷ [])
unfolding tops_removed
removed_append [] (RenamedTop a b) = refl
removed_append [] (RemovedTop e) = refl
removed_append (RenamedTop a b ∷ xs) l = removed_append xs l
removed_append (RemovedTop e ∷ xs) l = ap (λ zs. top_of e ∷ zs) (removed_append xs l)

-- of the list that is turned round
removed_turned : (ls : List Later) → removed_trees (map later_of ls) ≡ tops_removed (reverse ls)
unfolding tops_removed
removed_turned [] = refl
removed_turned (RenamedTop a b ∷ ls) = removed_turned ls ∙ sym (ap tops_removed (reverse-append (RenamedTop a b ∷ []) ls) ∙ removed_append (reverse ls) (RenamedTop a b) ∙ nothing_behind (tops_removed (reverse ls)))
  where
    nothing_behind : (xs : List (Top Dir)) → xs ++ [] ≡ xs
    nothing_behind [] = refl
    nothing_behind (x ∷ xs) = ap (λ ys. x ∷ ys) (nothing_behind xs)
removed_turned (RemovedTop e ∷ ls) =
    reverse-append (top_of e ∷ []) (map (λ (s : Source Dir). s.top) (removed (map later_of ls))) ∙ ap (λ xs. xs ++ top_of e ∷ []) (removed_turned ls) ∙ sym (ap tops_removed (reverse-append (RemovedTop e ∷ []) ls) ∙ removed_append (reverse ls) (RemovedTop e))

pub sources_are : (es srcs : List TopEntry) (ls : List Later) → srcs ≡ es ++ removed_tops ls → map top_of srcs ≡ map top_of es ++ removed_trees (pending_of ls)
sources_are es srcs ls is =
    ap (map top_of) is ∙ map_append top_of es (removed_tops ls) ∙ ap (λ xs. map top_of es ++ xs) (tops_of_removed ls ∙ sym (removed_turned (reverse ls) ∙ ap tops_removed (reverse-reverse ls)))

-- a key stands at one place
no_two : (ks : List Name) (i j : ℕ) (n : Name) → IsStrictlySortedBy (slice_cmp nat_cmp) ks → slice_get ks i ≡ Some n → slice_get ks j ≡ Some n → i < j → ⊥
no_two ks i j n sorted hi hj lt =
    let within = slice_get_within ks j n hj in
    let less : slice_cmp nat_cmp n n ≡ Less =
    ap (λ k. slice_cmp nat_cmp k n) (sym (get_or_from_slice_get ks i n n hi)) ∙ ap (slice_cmp nat_cmp (get_or ks i n)) (sym (get_or_from_slice_get ks j n n hj)) ∙ Less-from_sorted (slice_cmp nat_cmp) ks i j n sorted lt within in
    let same : is_eq (slice_cmp nat_cmp n n) ≡ true = is_eq-slice_cmp n n ∙ test_refl n in
    cc (less, same, ap is_eq less)

lt_of : (i j : ℕ) → nat_lt i j ≡ true → i < j
lt_of i j h = ltb-true i j h

one_of : (i j : ℕ) → nat_lt i j ≡ false → nat_lt j i ≡ false → i ≡ j
one_of i j h k = let a = ltb-false i j h in let b = ltb-false j i k in omega (arith, a, b)

one_place : (ks : List Name) (i j : ℕ) (n : Name) → IsStrictlySortedBy (slice_cmp nat_cmp) ks → slice_get ks i ≡ Some n → slice_get ks j ≡ Some n → i ≡ j
one_place ks i j n sorted hi hj =
    elim (nat_lt i j) as (λ t. nat_lt i j ≡ t → i ≡ j) [
      | true ↦ λ h. absurd (no_two ks i j n sorted hi hj (lt_of i j h))
      | false ↦ λ h. elim (nat_lt j i) as (λ t. nat_lt j i ≡ t → i ≡ j) [
        | true ↦ λ k. absurd (no_two ks j i n sorted hj hi (lt_of j i k))
        | false ↦ λ k. one_of i j h k
      ] refl
    ] refl

length-tops : (srcs : List TopEntry) → length (map top_of srcs) ≡ length srcs
length-tops [] = refl
length-tops (x ∷ srcs) = ap suc (length-tops srcs)

module _ (p : Pick) (es srcs : List TopEntry) (ps : List Later) (m : BTreeMap Name Comer) (apart : are_apart es ≡ true) (ordered : IsOrdered (slice_cmp nat_cmp) m)
    (is : (n : Name) → at m n ≡ best (all_comers p es ps) n) (from : srcs ≡ es ++ removed_tops ps) where
  best_at : (i : ℕ) (n : Name) (c : Comer) → slice_get m.entries i ≡ Some (n, c) → best (all_comers p es ps) n ≡ Some c
  best_at i n c h = sym (is n) ∙ btree_map_get_place nat_list_cmp_total m i n c ordered h

  -- each place is one of the sources
  inside : (i : ℕ) (n : Name) (c : Comer) → slice_get m.entries i ≡ Some (n, c) → c.place < length srcs
  inside i n c h =
      let (w, e, comes, age, tree) = comer_from p es (pending_of ps) apart n c (best_in (all_comers p es ps) n c (best_at i n c h)) in
      let within = slice_get_within (trees_at p es (pending_of ps) apart) c.place e tree in
      subst (λ k. c.place < k) (ap length (sym (sources_are es srcs ps from)) ∙ length-tops srcs) within

  -- and no two are in one place
  one_each : (i j : ℕ) (n k : Name) (c d : Comer) → slice_get m.entries i ≡ Some (n, c) → slice_get m.entries j ≡ Some (k, d) → c.place ≡ d.place → i ≡ j
  one_each i j n k c d hi hj same =
      let names : n ≡ k = places_apart p es (pending_of ps) apart n k c d (best_in (all_comers p es ps) n c (best_at i n c hi)) (best_in (all_comers p es ps) k d (best_at j k d hj)) same in
      let here : slice_get (keys_of m.entries) i ≡ Some n = slice_get-map (λ (e : Name × Comer). e.0) m.entries i ∙ ap (option_map (λ (e : Name × Comer). e.0)) hi in
      let there : slice_get (keys_of m.entries) j ≡ Some k = slice_get-map (λ (e : Name × Comer). e.0) m.entries j ∙ ap (option_map (λ (e : Name × Comer). e.0)) hj in
      one_place (keys_of m.entries) i j n ordered here (there ∙ ap Some (sym names))

  pub places : ArePlaces m.entries srcs
  places = record { inside = inside; apart = one_each }

  -- what is left is what the pick leaves
  pub left_picked : (left : List TopEntry) → left ≡ map (moved srcs) m.entries → IsPicked p (shelf_is p es (pending_of ps) apart) (tops_of left)
  left_picked left made =
      picked p es (pending_of ps) apart srcs (tops_of left) (sources_are es srcs ps from)
      (λ n. ap (λ xs. tops_of xs n) made ∙ tops_left srcs m.entries n ∙ ap (option_map (λ (c : Comer). top_of (get_or srcs c.place no_entry))) (is n))

  pub left_apart : (left : List TopEntry) → left ≡ map (moved srcs) m.entries → are_apart left ≡ true
  left_apart left made = ap are_apart made ∙ apart_left srcs m.entries ordered
