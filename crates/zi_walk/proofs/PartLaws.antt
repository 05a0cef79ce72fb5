-- First parts of lists, and lists that grow.
use Rattle.std.proofs.Common.{◌≡◌, ℕ, zero, suc, ◌+◌, ◌-◌, ◌<◌, ◌≤◌, List, [], ◌∷◌, ◌++◌, length, map, take, min, refl, sym, ap, ◌∙◌, subst, arith, length-append, Option, Some, None, ◌⊎◌}
use Rattle.std.specs.Prelude.{slice_get}
use Rattle.std.proofs.lemmas.List.{take_all, take-append-le, length-take-le}
use Rattle.std.proofs.lemmas.Option.{slice_get_within, same_Some}
use Rattle.zi_walk.specs.Kept.{Longer}
use Rattle.zi_feed.specs.IdLaws.{none_some}

pub take_part : {A : Type 0} (m n : ℕ) (xs : List A) → m ≤ n → take m (take n xs) ≡ take m xs
take_part zero n xs h = refl
take_part (suc m) zero xs h = absurd (omega (arith, h))
take_part (suc m) (suc n) [] h = refl
take_part (suc m) (suc n) (x ∷ xs) h = ap (λ ys. x ∷ ys) (take_part m n xs (omega (arith, h)))

-- an item of a first part is one of the whole, and it stands before the part's end
pub part_item : {A : Type 0} (n : ℕ) (xs : List A) (m : ℕ) (x : A) → slice_get (take n xs) m ≡ Some x → (m < n) × (slice_get xs m ≡ Some x)
part_item zero xs m x e = absurd (none_some e)
part_item (suc n) [] m x e = absurd (none_some e)
part_item (suc n) (y ∷ xs) zero x e = (omega arith, e)
part_item (suc n) (y ∷ xs) (suc m) x e = let r = part_item n xs m x e in let l = r.0 in (omega (arith, l), r.1)

-- a first part with the item behind it
pub take_item : {A : Type 0} (xs : List A) (n : ℕ) (x : A) → slice_get xs n ≡ Some x → take (n + 1) xs ≡ take n xs ++ x ∷ []
take_item [] n x e = absurd (none_some e)
take_item (y ∷ xs) zero x e = ap (λ z. z ∷ []) (same_Some _ _ e)
take_item (y ∷ xs) (suc n) x e =
    let z : suc n + 1 ≡ suc (n + 1) = omega arith in ap (λ m. take m (y ∷ xs)) z ∙ ap (λ zs. y ∷ zs) (take_item xs n x e)

-- a first part of a list stays where the list grows
pub part_stays : {A : Type 0} (n : ℕ) (xs ys : List A) → Longer xs ys → n ≤ length xs → take n ys ≡ take n xs
part_stays n xs ys l h = ap (take n) l.1 ∙ take-append-le n xs l.0 h

pub longer_whole : {A : Type 0} (n : ℕ) (xs ys : List A) → Longer xs ys → n ≡ length xs → take n ys ≡ xs
longer_whole n xs ys l e = part_stays n xs ys l (omega (arith, e)) ∙ take_all n xs (omega (arith, e))

pub longer_length : {A : Type 0} (xs ys : List A) → Longer xs ys → length xs ≤ length ys
longer_length xs ys l =
    let e : length ys ≡ length xs + length l.0 = ap length l.1 ∙ length-append xs l.0 in omega (arith, e)

pub same_longer : {A : Type 0} (xs ys : List A) → ys ≡ xs → Longer xs ys
same_longer xs ys e = ([], e ∙ sym (nil_behind xs))
  where
    nil_behind : {A : Type 0} (xs : List A) → xs ++ [] ≡ xs
    nil_behind [] = refl
    nil_behind (x ∷ xs) = ap (λ ys. x ∷ ys) (nil_behind xs)
