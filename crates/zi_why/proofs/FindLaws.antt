-- What loops look for: the first of what is left is the first of all.
use Rattle.std.proofs.Common.{◌≡◌, ℕ, suc, zero, ◌+◌, ◌≤◌, Bool, true, false, not, cond, ◌&&◌, List, [], ◌∷◌, drop, map, length, refl, sym, ap, ◌∙◌, arith, Some, None}
use Rattle.std.specs.Prelude.{find, option_map, is_none, slice_get}
use Rattle.std.specs.Option.{option_or}
use Rattle.std.specs.List.{list_all, list_any, flat_map}
use Rattle.std.proofs.lemmas.List.{drop_all}
use Rattle.std.proofs.lemmas.List.Folds.{find-append}
use Rattle.std.proofs.lemmas.Option.{same_Some}
use Rattle.zi_feed.specs.IdLaws.{none_some}

drop_next : {A : Type 0} (xs : List A) (n : ℕ) (x : A) → slice_get xs n ≡ Some x → drop n xs ≡ x ∷ drop (suc n) xs
drop_next [] n x e = absurd (none_some e)
drop_next (y ∷ ys) zero x e = ap (λ z. z ∷ ys) (same_Some _ _ e)
drop_next (y ∷ ys) (suc n) x e = drop_next ys n x e

pub drop_one : {A : Type 0} (xs : List A) (n : ℕ) (x : A) → slice_get xs n ≡ Some x → drop n xs ≡ x ∷ drop (n + 1) xs
drop_one xs n x e = let z : suc n ≡ n + 1 = omega arith in drop_next xs n x e ∙ ap (λ m. x ∷ drop m xs) z

-- The first of what is left is the first of all.
abbrev pub LeftFinds : {A : Type 0} → (A → Bool) → List A → ℕ → Type 0
LeftFinds test xs i = find test (drop i xs) ≡ find test xs

left_is : {A : Type 0} (test : A → Bool) (xs : List A) (i : ℕ) (x : A) → slice_get xs i ≡ Some x → LeftFinds test xs i → cond (test x) (Some x) (find test (drop (i + 1) xs)) ≡ find test xs
left_is test xs i x e h = sym (ap (find test) (drop_one xs i x e)) ∙ h

pub found_here : {A : Type 0} (test : A → Bool) (xs : List A) (i : ℕ) (x : A) → slice_get xs i ≡ Some x → LeftFinds test xs i → test x ≡ true → Some x ≡ find test xs
found_here test xs i x e h t = ap (λ b. cond b (Some x) (find test (drop (i + 1) xs))) (sym t) ∙ left_is test xs i x e h

pub found_later : {A : Type 0} (test : A → Bool) (xs : List A) (i : ℕ) (x : A) → slice_get xs i ≡ Some x → LeftFinds test xs i → test x ≡ false → LeftFinds test xs (i + 1)
found_later test xs i x e h t = ap (λ b. cond b (Some x) (find test (drop (i + 1) xs))) (sym t) ∙ left_is test xs i x e h

pub found_none : {A : Type 0} (test : A → Bool) (xs : List A) (i : ℕ) → length xs ≤ i → LeftFinds test xs i → None ≡ find test xs
found_none test xs i le h = sym (ap (find test) (drop_all i xs le)) ∙ h

pub find_map : {A B : Type 0} (test : B → Bool) (f : A → B) (xs : List A) → find test (map f xs) ≡ option_map f (find (λ x. test (f x)) xs)
find_map test f [] = refl
find_map test f (x ∷ xs) = at (test (f x)) (find_map test f xs)
  where
    at : (b : Bool) → find test (map f xs) ≡ option_map f (find (λ y. test (f y)) xs) → cond b (Some (f x)) (find test (map f xs)) ≡ option_map f (cond b (Some x) (find (λ y. test (f y)) xs))
    at true e = refl
    at false e = e

-- of those that one item has
abbrev pub LeftFlat : {A B : Type 0} → (B → Bool) → (A → List B) → List A → ℕ → Type 0
LeftFlat test f xs i = find test (flat_map f (drop i xs)) ≡ find test (flat_map f xs)

flat_is : {A B : Type 0} (test : B → Bool) (f : A → List B) (xs : List A) (i : ℕ) (x : A) → slice_get xs i ≡ Some x → LeftFlat test f xs i → option_or (find test (f x)) (find test (flat_map f (drop (i + 1) xs))) ≡ find test (flat_map f xs)
flat_is test f xs i x e h = sym (ap (λ ys. find test (flat_map f ys)) (drop_one xs i x e) ∙ find-append test (f x) (flat_map f (drop (i + 1) xs))) ∙ h

pub flat_here : {A B : Type 0} (test : B → Bool) (f : A → List B) (xs : List A) (i : ℕ) (x : A) (y : B) → slice_get xs i ≡ Some x → LeftFlat test f xs i → find test (f x) ≡ Some y → Some y ≡ find test (flat_map f xs)
flat_here test f xs i x y e h t = ap (λ o. option_or o (find test (flat_map f (drop (i + 1) xs)))) (sym t) ∙ flat_is test f xs i x e h

pub flat_later : {A B : Type 0} (test : B → Bool) (f : A → List B) (xs : List A) (i : ℕ) (x : A) → slice_get xs i ≡ Some x → LeftFlat test f xs i → find test (f x) ≡ None → LeftFlat test f xs (i + 1)
flat_later test f xs i x e h t = ap (λ o. option_or o (find test (flat_map f (drop (i + 1) xs)))) (sym t) ∙ flat_is test f xs i x e h

pub flat_none : {A B : Type 0} (test : B → Bool) (f : A → List B) (xs : List A) (i : ℕ) → length xs ≤ i → LeftFlat test f xs i → None ≡ find test (flat_map f xs)
flat_none test f xs i le h = sym (ap (λ ys. find test (flat_map f ys)) (drop_all i xs le)) ∙ h

-- whether there is one
abbrev pub LeftAny : {A : Type 0} → (A → Bool) → List A → ℕ → Type 0
LeftAny test xs i = list_any test (drop i xs) ≡ list_any test xs

pub find_on : {A : Type 0} (p q : A → Bool) (xs : List A) → ((x : A) → p x ≡ q x) → find p xs ≡ find q xs
find_on p q [] h = refl
find_on p q (x ∷ xs) h = ap (λ b. cond b (Some x) (find p xs)) (h x) ∙ ap (λ o. cond (q x) (Some x) o) (find_on p q xs h)

pub find_none : {A : Type 0} (p : A → Bool) (xs : List A) → ((x : A) → p x ≡ false) → find p xs ≡ None
find_none p [] h = refl
find_none p (x ∷ xs) h = ap (λ b. cond b (Some x) (find p xs)) (h x) ∙ find_none p xs h

-- each passes exactly where none is found that doesn't
pub all_found : {A : Type 0} (p q : A → Bool) (xs : List A) → ((x : A) → p x ≡ not (q x)) → list_all p xs ≡ is_none (find q xs)
all_found p q [] h = refl
all_found p q (x ∷ xs) h = at (q x) (h x) (all_found p q xs h)
  where
    at : (b : Bool) → p x ≡ not b → list_all p xs ≡ is_none (find q xs) → (p x && list_all p xs) ≡ is_none (cond b (Some x) (find q xs))
    at true e rest = ap (λ c. c && list_all p xs) e
    at false e rest = ap (λ c. c && list_all p xs) e ∙ rest
