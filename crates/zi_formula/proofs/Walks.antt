-- What a walk over constraints has found so far.
use Rattle.std.proofs.Common.{◌≡◌, ℕ, ◌+◌, ◌≤◌, Bool, true, false, ◌&&◌, List, ◌∷◌, length, take, drop, sym, ap, ◌∙◌, subst}
use Rattle.std.specs.Prelude.{Some, slice_get}
use Rattle.std.specs.List.{All}
use Rattle.std.proofs.lemmas.Option.{slice_get_within, get_or_from_slice_get}
use Rattle.std.proofs.lemmas.List.{drop_more, take_all}
use Rattle.std.proofs.lemmas.List.Elements.{All-more}
use Rattle.zi_formula.specs.declared.formula.Constraint.{Constraint}
use Rattle.zi_formula.specs.Form.{ConstraintWithin, ItemsOnce, OnceAll}
use Rattle.zi_formula.specs.Truth.{constraint_true, all_true}

-- the rest of the list, where one item of it is known
pub next_is : (cs : List Constraint) (i : ℕ) (c : Constraint) → slice_get cs i ≡ Some c → drop i cs ≡ c ∷ drop (i + 1) cs
next_is cs i c e =
    drop_more cs i c (slice_get_within cs i c e) ∙ ap (λ x. x ∷ drop (i + 1) cs) (get_or_from_slice_get cs i c c e)

pub within_more : (n : ℕ) (cs : List Constraint) (i : ℕ) (c : Constraint) → slice_get cs i ≡ Some c → ConstraintWithin n c → All (ConstraintWithin n) (take i cs) → All (ConstraintWithin n) (take (i + 1) cs)
within_more n cs i c e p a =
    All-more (ConstraintWithin n) cs i c (slice_get_within cs i c e) a (subst (ConstraintWithin n) (sym (get_or_from_slice_get cs i c c e)) p)

pub within_whole : (n : ℕ) (cs : List Constraint) (i : ℕ) → length cs ≤ i → All (ConstraintWithin n) (take i cs) → All (ConstraintWithin n) cs
within_whole n cs i l a = subst (All (ConstraintWithin n)) (take_all i cs l) a

pub once_next : (cs : List Constraint) (i : ℕ) (c : Constraint) → slice_get cs i ≡ Some c → ItemsOnce c → (OnceAll (drop i cs) → OnceAll cs) × (OnceAll cs → OnceAll (drop i cs)) → (OnceAll (drop (i + 1) cs) → OnceAll cs) × (OnceAll cs → OnceAll (drop (i + 1) cs))
once_next cs i c e p h =
    let n : drop i cs ≡ c ∷ drop (i + 1) cs = next_is cs i c e in
    (λ o. h.0 (subst OnceAll (sym n) (p, o)), λ o. (let r : OnceAll (c ∷ drop (i + 1) cs) = subst OnceAll n (h.1 o) in r.1))

pub once_first : (cs : List Constraint) (i : ℕ) (c : Constraint) → slice_get cs i ≡ Some c → OnceAll (drop i cs) → ItemsOnce c
once_first cs i c e o = let r : OnceAll (c ∷ drop (i + 1) cs) = subst OnceAll (next_is cs i c e) o in r.0

pub true_next : (v : ℕ → Bool) (cs : List Constraint) (i : ℕ) (c : Constraint) → slice_get cs i ≡ Some c → constraint_true v c ≡ true → all_true v (drop i cs) ≡ all_true v cs → all_true v (drop (i + 1) cs) ≡ all_true v cs
true_next v cs i c e t h =
    sym (ap (all_true v) (next_is cs i c e) ∙ ap (λ b. b && all_true v (drop (i + 1) cs)) t) ∙ h

pub true_fails : (v : ℕ → Bool) (cs : List Constraint) (i : ℕ) (c : Constraint) → slice_get cs i ≡ Some c → constraint_true v c ≡ false → all_true v (drop i cs) ≡ all_true v cs → false ≡ all_true v cs
true_fails v cs i c e t h =
    sym (ap (all_true v) (next_is cs i c e) ∙ ap (λ b. b && all_true v (drop (i + 1) cs)) t) ∙ h
