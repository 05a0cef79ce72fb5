-- The trees that a crash moves to the entries that are left.
use Rattle.std.proofs.Common.{◌≡◌, ◌<◌, ℕ, zero, suc, Bool, true, false, ◌&&◌, List, [], ◌∷◌, ◌++◌, map, reverse, length, Some, refl, sym, ◌∙◌, ap, subst, slice_get, get_or, arith, append-nil}
use Rattle.std.proofs.lemmas.List.{reverse-append}
use Rattle.zi_tree.specs.Order.{is_tree}
use Rattle.zi_shelf.specs.Names.{Name}
use Rattle.zi_memory.specs.Memory.{are_trees}
use Rattle.zi_memory.specs.Comers.{ArePlaces, moved, no_entry, removed_tops}
use Rattle.zi_memory.specs.declared.top_entry.TopEntry.{TopEntry}
use Rattle.zi_memory.specs.declared.top_entry.Later.{Later}
use Rattle.zi_memory.specs.declared.top_entry.Later.TheVariants.{RenamedTop, RemovedTop}
use Rattle.zi_memory.specs.declared.crash.Comer.{Comer}

behind_one : {X : Type 0} (xs : List X) (x : X) (ys : List X) → (xs ++ x ∷ []) ++ ys ≡ xs ++ x ∷ ys
behind_one [] x ys = refl
behind_one (y ∷ xs) x ys = ap (λ zs. y ∷ zs) (behind_one xs x ys)

-- one more is left, and one less comes
pub made_more : (f : Name × Comer → TopEntry) (left whole : List TopEntry) (e : TopEntry) (es rest : List (Name × Comer)) (x : Name × Comer) → es ≡ x ∷ rest → e ≡ f x → left ++ map f es ≡ whole → (left ++ e ∷ []) ++ map f rest ≡ whole
made_more f left whole e es rest x split is made =
    behind_one left e (map f rest) ∙ ap (λ y. left ++ y ∷ map f rest) is ∙ ap (λ xs. left ++ map f xs) (sym split) ∙ made

pub trees_more : (es : List TopEntry) (e : TopEntry) → are_trees es ≡ true → is_tree e.tree ≡ true → are_trees (es ++ e ∷ []) ≡ true
trees_more [] e h t = rw t refl
trees_more (x ∷ es) e h t = rest (is_tree x.tree) (are_trees es) (are_trees (es ++ e ∷ [])) h (λ k. trees_more es e k t)
  where
    rest : (a b d : Bool) → (a && b) ≡ true → (b ≡ true → d ≡ true) → (a && d) ≡ true
    rest true b d k f = f k
    rest false b d k f = absurd (cc k)

pub place_head : (es rest : List (Name × Comer)) (srcs : List TopEntry) (n : Name) (c : Comer) → es ≡ (n, c) ∷ rest → ArePlaces es srcs → c.place < length srcs
place_head es rest srcs n c split are = are.inside 0 n c (ap (λ xs. slice_get xs 0) split)

get_later : (es rest : List (Name × Comer)) (x : Name × Comer) (i : ℕ) → es ≡ x ∷ rest → slice_get es (suc i) ≡ slice_get rest i
get_later es rest x i split = ap (λ xs. slice_get xs (suc i)) split

pub places_rest : (es rest : List (Name × Comer)) (srcs srcs' : List TopEntry) (x : Name × Comer) → es ≡ x ∷ rest → length srcs' ≡ length srcs → ArePlaces es srcs → ArePlaces rest srcs'
places_rest es rest srcs srcs' x split len are = record {
  inside = λ i n c h. subst (λ k. c.place < k) (sym len) (are.inside (suc i) n c (get_later es rest x i split ∙ h));
  apart = λ i j n m c d hi hj same. (let e = are.apart (suc i) (suc j) n m c d (get_later es rest x i split ∙ hi) (get_later es rest x j split ∙ hj) same in omega (arith, e));
}

-- what comes later still stands in its place
pub still_there : (es rest : List (Name × Comer)) (srcs srcs' srcs0 : List TopEntry) (n : Name) (c : Comer) → es ≡ (n, c) ∷ rest → ArePlaces es srcs
    → ((other : ℕ) → (other ≡ c.place → ⊥) → get_or srcs' other no_entry ≡ get_or srcs other no_entry)
    → ((i : ℕ) (m : Name) (d : Comer) → slice_get es i ≡ Some (m, d) → get_or srcs d.place no_entry ≡ get_or srcs0 d.place no_entry)
    → (i : ℕ) (m : Name) (d : Comer) → slice_get rest i ≡ Some (m, d) → get_or srcs' d.place no_entry ≡ get_or srcs0 d.place no_entry
still_there es rest srcs srcs' srcs0 n c split are left same i m d h =
    let here : slice_get es 0 ≡ Some (n, c) = ap (λ xs. slice_get xs 0) split in
    let there : slice_get es (suc i) ≡ Some (m, d) = get_later es rest (n, c) i split ∙ h in
    left d.place (λ e. (let no = are.apart 0 (suc i) n m c d here there (sym e) in omega (arith, no))) ∙ same (suc i) m d there

pub taken_is : (es rest : List (Name × Comer)) (srcs srcs0 : List TopEntry) (n : Name) (c : Comer) (e : TopEntry) → es ≡ (n, c) ∷ rest → e ≡ record (get_or srcs c.place no_entry) { name = n }
    → ((i : ℕ) (m : Name) (d : Comer) → slice_get es i ≡ Some (m, d) → get_or srcs d.place no_entry ≡ get_or srcs0 d.place no_entry) → e ≡ moved srcs0 (n, c)
taken_is es rest srcs srcs0 n c e split is same =
    is ∙ ap (λ (x : TopEntry). let y : TopEntry = record x { name = n } in y) (same 0 n c (ap (λ xs. slice_get xs 0) split))

-- the removed entries, one more put behind the others
removed_first : (l : Later) (ls : List Later) → removed_tops (l ∷ ls) ≡ removed_tops (l ∷ []) ++ removed_tops ls
removed_first (RenamedTop a b) ls = refl
removed_first (RemovedTop e) ls = refl

append_three : {X : Type 0} (xs ys zs : List X) → (xs ++ ys) ++ zs ≡ xs ++ (ys ++ zs)
append_three [] ys zs = refl
append_three (x ∷ xs) ys zs = ap (λ l. x ∷ l) (append_three xs ys zs)

pub removed_more : (sources sources' whole : List TopEntry) (left rest : List Later) (l : Later) → left ≡ rest ++ l ∷ [] → sources' ≡ sources ++ removed_tops (l ∷ []) → sources ++ removed_tops (reverse left) ≡ whole → sources' ++ removed_tops (reverse rest) ≡ whole
removed_more sources sources' whole left rest l split is made =
    ap (λ s. s ++ removed_tops (reverse rest)) is ∙ append_three sources (removed_tops (l ∷ [])) (removed_tops (reverse rest))
    ∙ ap (λ t. sources ++ t) (sym (removed_first l (reverse rest)) ∙ ap removed_tops (sym (reverse-append rest (l ∷ [])) ∙ ap reverse (sym split))) ∙ made

pub all_made : (f : Name × Comer → TopEntry) (left whole : List TopEntry) (es : List (Name × Comer)) → es ≡ [] → left ++ map f es ≡ whole → left ≡ whole
all_made f left whole es none made = sym (append-nil left) ∙ ap (λ xs. left ++ map f xs) (sym none) ∙ made

pub all_removed : (sources whole : List TopEntry) (left : List Later) → left ≡ [] → sources ++ removed_tops (reverse left) ≡ whole → sources ≡ whole
all_removed sources whole left none made = sym (append-nil sources) ∙ ap (λ xs. sources ++ removed_tops (reverse xs)) (sym none) ∙ made
