-- Items are looked at one after another.
use Rattle.std.proofs.Common.{◌≡◌, ℕ, ◌+◌, ◌<◌, ◌≤◌, Bool, true, false, cond, leb, List, [], ◌∷◌, length, drop, get_or, refl, sym, ap, ◌∙◌, arith, Option, Some, None}
use Rattle.std.proofs.lemmas.Bool.{and_parts}
use Rattle.std.proofs.lemmas.Bool.Decides.{nat_tests}
use Rattle.std.proofs.lemmas.List.{at_drop_more, at_drop_all}
use Rattle.zi_proof.specs.Known.{is_open}
use Rattle.zi_sat.specs.Trail.{value_by}
use Rattle.zi_reach.specs.Rule.{or_else, first_given, within}

pub first_starts : {A : Type 0} (f : A → Option ℕ) (xs : List A) → first_given f (drop 0 xs) ≡ first_given f xs
first_starts f [] = refl
first_starts f (x ∷ xs) = refl

pub first_passed : {A : Type 0} (f : A → Option ℕ) (xs : List A) (i : ℕ) (d : A) → first_given f (drop i xs) ≡ first_given f xs → i < length xs → None ≡ f (get_or xs i d) → first_given f (drop (i + 1) xs) ≡ first_given f xs
first_passed f xs i d h low e =
    ap (λ o. or_else o (first_given f (drop (i + 1) xs))) e ∙ (sym (at_drop_more (first_given f) xs i d low) ∙ h)

pub first_found : {A : Type 0} (f : A → Option ℕ) (xs : List A) (i : ℕ) (d : A) (y : ℕ) → first_given f (drop i xs) ≡ first_given f xs → i < length xs → Some y ≡ f (get_or xs i d) → Some y ≡ first_given f xs
first_found f xs i d y h low e =
    ap (λ o. or_else o (first_given f (drop (i + 1) xs))) e ∙ (sym (at_drop_more (first_given f) xs i d low) ∙ h)

pub first_ends : {A : Type 0} (f : A → Option ℕ) (xs : List A) (i : ℕ) → first_given f (drop i xs) ≡ first_given f xs → length xs ≤ i → None ≡ first_given f xs
first_ends f xs i h e = sym (at_drop_all (first_given f) xs i e) ∙ h

pub within_parts : (n x : ℕ) → within n x ≡ true → (1 ≤ x) × (x ≤ n)
within_parts n x h =
    let a : leb 1 x ≡ true = (and_parts (leb 1 x) (leb x n) h).0 in
    let b : leb x n ≡ true = (and_parts (leb 1 x) (leb x n) h).1 in
    (grind (arith, nat_tests), grind (arith, nat_tests))

pub value_same : (o : Option Bool) → value_by o true ≡ o
value_same None = refl
value_same (Some true) = refl
value_same (Some false) = refl

pub out_of : {A : Type 0} (b : Bool) (o p : Option A) → b ≡ false → p ≡ cond b o p
out_of false o p e = refl
out_of true o p e = absurd (cc)

pub inside_of : {A : Type 0} (b : Bool) (o p q : Option A) → b ≡ true → q ≡ o → q ≡ cond b o p
inside_of true o p q e f = f
inside_of false o p q e f = absurd (cc)

pub open_none : (o : Option Bool) → None ≡ o → is_open o ≡ true
open_none None e = refl
open_none (Some b) e = absurd (cc)
