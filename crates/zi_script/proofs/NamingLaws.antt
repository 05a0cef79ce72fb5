-- Variables that stand in a list up to a place.
use Rattle.std.proofs.Common.{◌≡◌, ℕ, zero, suc, ◌<◌, ◌≤◌, ◌+◌, Bool, true, false, cond, List, [], ◌∷◌, ◌++◌, length, take, find, Option, Some, None, option_map, slice_get, refl, sym, ap, subst, ◌∙◌, arith}
use Rattle.std.specs.List.{filter, flat_map}
use Rattle.std.proofs.lemmas.List.{take_all, take_more}
use Rattle.std.proofs.lemmas.Option.{same_Some, slice_get_within, get_or_from_slice_get}
use Rattle.zi_outside.specs.declared.var.Var.{Var}

var_is : (v : Var) (name value : List ℕ) → v.name ≡ name → v.value ≡ value → v ≡ record { name = name; value = value }
var_is v name value n m = ap (λ x. record { name = x; value = v.value }) n ∙ ap (λ y. record { name = name; value = y }) m

-- the variable at a place, by its name and its value
named : (o : Option Var) (name value : List ℕ) → option_map (λ (v : Var). v.name) o ≡ Some name → option_map (λ (v : Var). v.value) o ≡ Some value
    → o ≡ Some (record { name = name; value = value })
named None name value n m = absurd (cc n)
named (Some v) name value n m = ap Some (var_is v name value (same_Some v.name name n) (same_Some v.value value m))

-- it is the next behind those before it
pub next_var : (vars : List Var) (i : ℕ) (name value : List ℕ) → option_map (λ (v : Var). v.name) (slice_get vars i) ≡ Some name
    → option_map (λ (v : Var). v.value) (slice_get vars i) ≡ Some value → take (i + 1) vars ≡ take i vars ++ record { name = name; value = value } ∷ []
next_var vars i name value n m =
    let v : Var = record { name = name; value = value } in
    let is = named (slice_get vars i) name value n m in
    take_more vars i v (slice_get_within vars i v is) ∙ ap (λ x. take i vars ++ x ∷ []) (get_or_from_slice_get vars i v v is)

-- The first of a list that is so.

-- none of those before a place is so
none_more : (p : Var → Bool) (xs : List Var) (x : Var) → find p xs ≡ None → p x ≡ false → find p (xs ++ x ∷ []) ≡ None
none_more p [] x h e = ap (λ b. cond b (Some x) None) e
none_more p (y ∷ ys) x h e = by (p y) h (none_more p ys x)
  where
    by : (b : Bool) → cond b (Some y) (find p ys) ≡ None → (find p ys ≡ None → p x ≡ false → find p (ys ++ x ∷ []) ≡ None) → cond b (Some y) (find p (ys ++ x ∷ [])) ≡ None
    by true h go = absurd (cc h)
    by false h go = go h e

pub none_then : (p : Var → Bool) (vars : List Var) (i : ℕ) (name value : List ℕ) → option_map (λ (v : Var). v.name) (slice_get vars i) ≡ Some name
    → option_map (λ (v : Var). v.value) (slice_get vars i) ≡ Some value → find p (take i vars) ≡ None → p (record { name = name; value = value }) ≡ false → find p (take (i + 1) vars) ≡ None
none_then p vars i name value n m h e = subst (λ xs. find p xs ≡ None) (sym (next_var vars i name value n m)) (none_more p (take i vars) (record { name = name; value = value }) h e)

-- the one at the place is
pub first_here : (p : Var → Bool) (vars : List Var) (i : ℕ) (name value : List ℕ) → option_map (λ (v : Var). v.name) (slice_get vars i) ≡ Some name
    → option_map (λ (v : Var). v.value) (slice_get vars i) ≡ Some value → find p (take i vars) ≡ None → p (record { name = name; value = value }) ≡ true
    → option_map (λ (v : Var). v.name) (find p vars) ≡ Some name
first_here p [] i name value n m h e = absurd (cc)
first_here p (v ∷ vs) zero name value n m h e =
    let is = var_is v name value (same_Some v.name name n) (same_Some v.value value m) in
    ap (λ b. option_map (λ (v : Var). v.name) (cond b (Some v) (find p vs))) (ap p is ∙ e) ∙ n
first_here p (v ∷ vs) (suc i) name value n m h e = by (p v) h (λ g. first_here p vs i name value n m g e)
  where
    by : (b : Bool) → cond b (Some v) (find p (take i vs)) ≡ None → (find p (take i vs) ≡ None → option_map (λ (v : Var). v.name) (find p vs) ≡ Some name)
        → option_map (λ (v : Var). v.name) (cond b (Some v) (find p vs)) ≡ Some name
    by true h go = absurd (cc h)
    by false h go = go h

pub none_of_all : (p : Var → Bool) (vars : List Var) (i : ℕ) → length vars ≤ i → find p (take i vars) ≡ None → option_map (λ (v : Var). v.name) (find p vars) ≡ None
none_of_all p vars i le h = ap (option_map (λ (v : Var). v.name)) (subst (λ xs. find p xs ≡ None) (take_all i vars le) h)
