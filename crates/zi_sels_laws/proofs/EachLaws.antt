-- What is so of each in a list, beside the words that say it otherwise.
use Rattle.std.proofs.Common.{◌≡◌, ℕ, zero, suc, List, [], ◌∷◌, Option, Some, subst}
use Rattle.std.specs.Prelude.{All, slice_get, IsPermutation}
use Rattle.std.proofs.lemmas.List.Elements.{All-nil, All-cons, All-head, All-tail}
use Rattle.std.proofs.lemmas.List.Sorted.{All-permutation}
use Rattle.zi_sels_laws.proofs.LikeLaws.{Each}

pub each_all : {X : Type 0} (P : X → Type 0) (xs : List X) → Each P xs → All P xs
each_all P [] h = All-nil P
each_all P (x ∷ xs) h = All-cons P x xs h.0 (each_all P xs h.1)

pub all_each : {X : Type 0} (P : X → Type 0) (xs : List X) → All P xs → Each P xs
all_each P [] h = tt
all_each P (x ∷ xs) h = (All-head P x xs h, all_each P xs (All-tail P x xs h))

-- in another order
pub each_permuted : {X : Type 0} (P : X → Type 0) (xs ys : List X) → IsPermutation xs ys → Each P xs → Each P ys
each_permuted P xs ys h k = all_each P ys (All-permutation P xs ys h (each_all P xs k))

-- of one that stands at a place
pub each_at : {X : Type 0} (P : X → Type 0) (xs : List X) (n : ℕ) (x : X) → Each P xs → slice_get xs n ≡ Some x → P x
each_at P [] n x h e = absurd (cc e)
each_at P (y ∷ xs) zero x h e = subst P (some_same y x e) h.0
  where
    some_same : {X : Type 0} (x y : X) → ◌≡◌ {A = Option X} (Some x) (Some y) → x ≡ y
    some_same x y e = cc
each_at P (y ∷ xs) (suc n) x h e = each_at P xs n x h.1 e
