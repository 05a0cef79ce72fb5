-- In which store a tree stands, and that it stands there at the end.
use Rattle.std.proofs.Common.{◌≡◌, ℕ, zero, suc, ◌+◌, Bool, true, false, cond, List, [], ◌∷◌, ◌++◌, map, Option, Some, None, IsSome, refl, sym, subst, arith, ◌⊎◌, inl, inr, Contains}
use Rattle.std.specs.List.{position_from, flat_map}
use Rattle.zi_tree.specs.Dir.{Dir}
use Rattle.zi_digest.specs.Name.{spelling}
use Rattle.zi_digest.specs.declared.DigestName.{DigestName}
use Rattle.zi_shelf.specs.Names.{Name, IsIn}
use Rattle.zi_shelf.specs.Shelved.{Shelved}
use Rattle.zi_shelf.specs.Shelving.{Shelving}
use Rattle.zi_shelf.specs.Told.{Told}
use Rattle.zi_shelf.specs.declared.call.CallKind.{CallKind}
use Rattle.zi_store.specs.Keeping.{Keeps}
use Rattle.zi_store.specs.Rising.{is_among}
use Rattle.zi_store.specs.Stores.{Each, HasNames, HaveNames}
use Rattle.zi_store.specs.Finding.{spelled}
use Rattle.zi_store.proofs.OrderLemmas.{in_of_among, among_of_in, in_map}
use Rattle.zi_world.specs.Shelves.{HeldThen}
use Rattle.zi_world.specs.Places.{InStore, AreTold, place_by}

-- It goes on to be honest and to tell what it holds, and where something stood under a name, something stands.
pub record Carries (before after : Shelving) : Type 0 where
  pub honest : before.honest → after.honest
  pub holds : (s : Told) → before.honest → before.told ≡ Some s → (t : Told) × (after.told ≡ Some t) × ((n : Name) → IsSome (s.shelf.tops n) → IsSome (t.shelf.tops n))

pub keeps_carries : (kinds : CallKind → Bool) (before after : Shelving) → Keeps kinds before after → Carries before after
keeps_carries kinds before after k = record {
  honest = λ h. k.stays.honest h;
  holds = λ s h e. let m = k.holds s h e in (m.0, m.1, λ n some. subst (λ (x : Shelved Dir). IsSome (x.tops n)) (sym m.2) some);
}

-- something stands there under this name at the end
abbrev pub HasAt : Name → Shelving → Shelving → Type 0
HasAt n before after = HeldThen before after (λ s. IsSome (s.tops n))

in_spelled : (n : Name) (ns : List DigestName) → IsIn n (map spelling ns) → (d : DigestName) × IsIn d ns × (n ≡ spelling d)
in_spelled n [] h = absurd h
in_spelled n (d ∷ ds) (inl e) = (d, inl refl, e)
in_spelled n (d ∷ ds) (inr i) = let r = in_spelled n ds i in (r.0, inr r.1, r.2)

named_stands : (n : Name) (k : Shelving) (ns : List DigestName) → HasNames k ns → is_among (map spelling ns) n ≡ true → (s : Told) → k.honest → k.told ≡ Some s → IsSome (s.shelf.tops n)
named_stands n k ns has e s honest told =
    let r = in_spelled n ns (in_of_among n (map spelling ns) e) in
    subst (λ m. IsSome (s.shelf.tops m)) (sym r.2) (((has s honest told).1 r.0).0 r.1).1

-- the first store that had it has it
at_place : (n : Name) (j i : ℕ) (ks ls : List Shelving) (each : List (List DigestName)) → HaveNames ks each → Each Carries ks ls → position_from (λ ns. is_among ns n) j (spelled each) ≡ Some i
    → (m : ℕ) × (i ≡ j + m) × InStore m ks ls (HasAt n)
at_place n j i [] ls [] has keep e = absurd cc
at_place n j i [] ls (ns ∷ each) has keep e = absurd has
at_place n j i (k ∷ ks) ls [] has keep e = absurd has
at_place n j i (k ∷ ks) [] (ns ∷ each) has keep e = absurd keep
at_place n j i (k ∷ ks) (l ∷ ls) (ns ∷ each) has keep e = by (is_among (map spelling ns) n) refl e (at_place n (j + 1) i ks ls each has.1 keep.1)
  where
    by : (b : Bool) → is_among (map spelling ns) n ≡ b → cond b (Some j) (position_from (λ ms. is_among ms n) (j + 1) (spelled each)) ≡ Some i
        → (position_from (λ ms. is_among ms n) (j + 1) (spelled each) ≡ Some i → (m : ℕ) × (i ≡ (j + 1) + m) × InStore m ks ls (HasAt n))
        → (m : ℕ) × (i ≡ j + m) × InStore m (k ∷ ks) (l ∷ ls) (HasAt n)
    by true q e go =
        let same : j ≡ i = cc in (
          0,
          omega (arith, same),
          λ s honest told. let c = keep.0.holds s honest told in (c.0, c.1, c.2 n (named_stands n k ns has.0 q s honest told)),
        )
    by false q e go = let r = go e in (suc r.0, omega (arith, r.1), r.2)

-- a digest that no store has is in none of the lists
in_front : (d : DigestName) (ns rest : List DigestName) → IsIn d (ns ++ rest) → IsIn d ns ⊎ IsIn d rest
in_front d [] rest h = inr h
in_front d (m ∷ ns) rest (inl e) = inl (inl e)
in_front d (m ∷ ns) rest (inr i) = by (in_front d ns rest i)
  where
    by : IsIn d ns ⊎ IsIn d rest → IsIn d (m ∷ ns) ⊎ IsIn d rest
    by (inl h) = inl (inr h)
    by (inr h) = inr h

pub in_no_list : (d : DigestName) (n : Name) (j : ℕ) (each : List (List DigestName)) → spelling d ≡ n → IsIn d (flat_map (λ (ns : List DigestName). ns) each)
    → position_from (λ ns. is_among ns n) j (spelled each) ≡ None → ⊥
in_no_list d n j [] e h none = h
in_no_list d n j (ns ∷ each) e h none = by (is_among (map spelling ns) n) refl none (in_front d ns (flat_map (λ (ms : List DigestName). ms) each) h) (in_no_list d n (j + 1) each e)
  where
    by : (b : Bool) → is_among (map spelling ns) n ≡ b → cond b (Some j) (position_from (λ ms. is_among ms n) (j + 1) (spelled each)) ≡ None
        → IsIn d ns ⊎ IsIn d (flat_map (λ (ms : List DigestName). ms) each)
        → (IsIn d (flat_map (λ (ms : List DigestName). ms) each) → position_from (λ ms. is_among ms n) (j + 1) (spelled each) ≡ None → ⊥) → ⊥
    by true q none h go = absurd cc
    by false q none (inl i) go =
        let there : is_among (map spelling ns) n ≡ true = among_of_in n (map spelling ns) (subst (λ m. IsIn m (map spelling ns)) e (in_map spelling d ns i)) in
        cc (q, there)
    by false q none (inr i) go = go i none

-- what is known stands in the store of its place, where what no store had stands in the first
pub stands_at : (n : Name) (k l : Shelving) (ks ls : List Shelving) (each : List (List DigestName)) → HaveNames (k ∷ ks) each → Each Carries (k ∷ ks) (l ∷ ls)
    → (position_from (λ ns. is_among ns n) 0 (spelled each) ≡ None → HasAt n k l) → InStore (place_by (position_from (λ ns. is_among ns n) 0 (spelled each))) (k ∷ ks) (l ∷ ls) (HasAt n)
stands_at n k l ks ls each has keep first = by (position_from (λ ns. is_among ns n) 0 (spelled each)) refl
  where
    by : (o : Option ℕ) → position_from (λ ns. is_among ns n) 0 (spelled each) ≡ o → InStore (place_by o) (k ∷ ks) (l ∷ ls) (HasAt n)
    by None e = first e
    by (Some i) e =
        let r = at_place n 0 i (k ∷ ks) (l ∷ ls) each has keep e in
        let at_ : r.0 ≡ i = omega (arith, r.1) in
        subst (λ m. InStore m (k ∷ ks) (l ∷ ls) (HasAt n)) at_ r.2

-- All that told what they held tell it at the end.
pub told_then : (ks ls : List Shelving) → Each Carries ks ls → (ss : List Told) → AreTold ks ss → (ts : List Told) × AreTold ls ts
told_then [] [] keep [] told = ([], tt)
told_then [] [] keep (s ∷ ss) told = absurd told
told_then [] (l ∷ ls) keep ss told = absurd keep
told_then (k ∷ ks) [] keep ss told = absurd keep
told_then (k ∷ ks) (l ∷ ls) keep [] told = absurd told
told_then (k ∷ ks) (l ∷ ls) keep (s ∷ ss) told =
    let r = keep.0.holds s told.0 told.1 in
    let rest = told_then ks ls keep.1 ss told.2 in
    (r.0 ∷ rest.0, (keep.0.honest told.0, r.1, rest.1))

-- what is said of one of them is said of one of those
pub one_of_told : (P : Shelved Dir → Type 0) (i : ℕ) (ks ls : List Shelving) → InStore i ks ls (λ b a. HeldThen b a P) → (ss : List Told) → AreTold ks ss → (ts : List Told) → AreTold ls ts
    → (s : Shelved Dir) × Contains (map (λ (t : Told). t.shelf) ts) s × P s
one_of_told P i [] ls h ss told ts then = absurd h
one_of_told P i (k ∷ ks) [] h ss told ts then = absurd h
one_of_told P i (k ∷ ks) (l ∷ ls) h [] told ts then = absurd told
one_of_told P i (k ∷ ks) (l ∷ ls) h (s ∷ ss) told [] then = absurd then
one_of_told P zero (k ∷ ks) (l ∷ ls) h (s ∷ ss) told (t ∷ ts) then =
    let r = h s told.0 told.1 in
    let is : l.told ≡ Some r.0 = r.1 in
    let was : l.told ≡ Some t = then.1 in
    let same : r.0 ≡ t = cc in
    (t.shelf, (0, omega arith, refl), subst (λ (m : Told). P m.shelf) same r.2)
one_of_told P (suc i) (k ∷ ks) (l ∷ ls) h (s ∷ ss) told (t ∷ ts) then =
    let r = one_of_told P i ks ls h ss told.2 ts then.2 in
    (r.0, (suc r.1.0, omega (arith, r.1.1), r.1.2), r.2)

-- Of one store.
pub in_store_with : (P Q T : Shelving → Shelving → Type 0) → ((b a : Shelving) → P b a → Q b a → T b a) → (i : ℕ) (ks ls : List Shelving) → InStore i ks ls P → InStore i ks ls Q → InStore i ks ls T
in_store_with P Q T both i [] ls p q = absurd p
in_store_with P Q T both i (k ∷ ks) [] p q = absurd p
in_store_with P Q T both zero (k ∷ ks) (l ∷ ls) p q = both k l p q
in_store_with P Q T both (suc i) (k ∷ ks) (l ∷ ls) p q = in_store_with P Q T both i ks ls p q

pub in_store_by : (P T : Shelving → Shelving → Type 0) → ((b a : Shelving) → P b a → T b a) → (i : ℕ) (ks ls : List Shelving) → InStore i ks ls P → InStore i ks ls T
in_store_by P T by i ks ls p = in_store_with P P T (λ b a x y. by b a x) i ks ls p p

-- what can't be of a store that tells what it holds
pub in_no_store : (P : Shelving → Shelving → Type 0) → ((b a : Shelving) (s : Told) → b.honest → b.told ≡ Some s → P b a → ⊥) → (i : ℕ) (ks ls : List Shelving) → InStore i ks ls P → (ss : List Told) → AreTold ks ss → ⊥
in_no_store P never i [] ls p ss told = p
in_no_store P never i (k ∷ ks) [] p ss told = p
in_no_store P never i (k ∷ ks) (l ∷ ls) p [] told = told
in_no_store P never zero (k ∷ ks) (l ∷ ls) p (s ∷ ss) told = never k l s told.0 told.1 p
in_no_store P never (suc i) (k ∷ ks) (l ∷ ls) p (s ∷ ss) told = in_no_store P never i ks ls p ss told.2

pub never_in_store : (P : Shelving → Shelving → Type 0) → ((b a : Shelving) → P b a → ⊥) → (i : ℕ) (ks ls : List Shelving) → InStore i ks ls P → ⊥
never_in_store P never i [] ls p = p
never_in_store P never i (k ∷ ks) [] p = p
never_in_store P never zero (k ∷ ks) (l ∷ ls) p = never k l p
never_in_store P never (suc i) (k ∷ ks) (l ∷ ls) p = never_in_store P never i ks ls p
