-- The number of a candidate, summed up interface by interface.
use Rattle.std.proofs.Common.{◌≡◌, ℕ, zero, suc, ◌+◌, ◌<◌, ◌≤◌, List, [], ◌∷◌, length, take, get_or, refl, sym, ap, ◌∙◌, arith, Some}
use Rattle.std.specs.Prelude.{fold, IsSome, slice_get}
use Rattle.std.proofs.lemmas.List.{get_or-take}
use Rattle.std.proofs.lemmas.Option.{slice_get_within, same_Some}
use Rattle.zi_universe.specs.declared.types.Interface.{Interface}
use Rattle.zi_universe.specs.Whole.{IsWhole, candidates_in}
use Rattle.zi_choice.specs.Choice.{candidate_at}
use Rattle.zi_choice.specs.Vars.{total, before, own_candidates}
use Rattle.zi_choice.proofs.Base.{candidate_is, interface_at}
use Rattle.zi_feed.specs.IdLaws.{none_some}
use Rattle.zi_text.proofs.ListLaws.{some_of}

-- sums
pub before_below : {A : Type 0} (f : A → ℕ) (xs : List A) (i : ℕ) (x : A) (j : ℕ) → slice_get xs i ≡ Some x → j < f x → before f xs i + j < total f xs
before_below f [] i x j e l = absurd (none_some e)
before_below f (y ∷ xs) zero x j e l = let q : f y ≡ f x = ap f (same_Some _ _ e) in omega (arith, l, q)
before_below f (y ∷ xs) (suc i) x j e l = let h = before_below f xs i x j e l in omega (arith, h)

fold_total : {A : Type 0} (f : A → ℕ) (xs : List A) (a : ℕ) → fold (λ b x. b + f x) a xs ≡ a + total f xs
fold_total f [] a = omega arith
fold_total f (x ∷ xs) a = let h = fold_total f xs (a + f x) in omega (arith, h)

pub total_few : (u : List Interface) → IsWhole u → total own_candidates u ≤ 65536
total_few u h =
    let e : candidates_in u ≡ 0 + total own_candidates u = fold_total own_candidates u 0 in
    let few = h.few_candidates in
    omega (arith, e, few)

step : {A : Type 0} (f : A → ℕ) (xs : List A) (i : ℕ) (d : A) → i < length xs → before f xs (suc i) ≡ before f xs i + f (get_or xs i d)
step f [] i d l = absurd (omega (arith, l))
step f (x ∷ xs) zero d l = first xs
  where
    first : (ys : List _) → f x + before f ys 0 ≡ 0 + f x
    first [] = omega arith
    first (y ∷ ys) = omega arith
step f (x ∷ xs) (suc i) d l = let h = step f xs i d (omega (arith, l)) in omega (arith, h)

bounded : {A : Type 0} (f : A → ℕ) (xs : List A) (i : ℕ) → before f xs i ≤ total f xs
bounded f [] i = omega arith
bounded f (x ∷ xs) zero = omega arith
bounded f (x ∷ xs) (suc i) = let h = bounded f xs i in omega (arith, h)

taken_less : {A : Type 0} (xs : List A) (n i : ℕ) → i < length (take n xs) → (i < n) × (i < length xs)
taken_less [] zero i l = absurd (omega (arith, l))
taken_less [] (suc n) i l = absurd (omega (arith, l))
taken_less (x ∷ xs) zero i l = absurd (omega (arith, l))
taken_less (x ∷ xs) (suc n) zero l = (omega arith, omega arith)
taken_less (x ∷ xs) (suc n) (suc i) l =
    let h = taken_less xs n i (omega (arith, l)) in let a = h.0 in let b = h.1 in (omega (arith, a), omega (arith, b))

-- one interface further
pub further : (u : List Interface) (n i : ℕ) (x : Interface) → i < length (take n u) → x ≡ get_or (take n u) i x → before own_candidates u (i + 1) ≡ before own_candidates u i + length x.candidates
further u n i x l e =
    let less = taken_less u n i l in
    let z : i + 1 ≡ suc i = omega arith in
    let same : x ≡ get_or u i x = e ∙ get_or-take n u i x less.0 in
    ap (λ j. before own_candidates u j) z ∙ step own_candidates u i x less.1 ∙ ap (λ (y : Interface). before own_candidates u i + length y.candidates) (sym same)

pub sum_fits : (u : List Interface) (i : ℕ) → IsWhole u → before own_candidates u i ≤ 65536
sum_fits u i h = let a = total_few u h in let b = bounded own_candidates u i in omega (arith, a, b)

-- the sum up to the candidate's interface, and its number
pub number_fits : (u : List Interface) (i c : ℕ) → IsWhole u → IsSome (candidate_at u i c) → before own_candidates u i + c < 65536
number_fits u i c h s =
    let k = some_of (candidate_at u i c) s in
    let x = interface_at u i c k.0 (sym (candidate_is u i c) ∙ k.1) in
    let l = slice_get_within x.0.candidates c k.0 x.2 in
    let a = before_below own_candidates u i x.0 c x.1 l in
    let b = total_few u h in omega (arith, a, b)

pub length_taken : {A : Type 0} (xs : List A) (n : ℕ) → n ≤ length xs → length (take n xs) ≡ n
length_taken [] zero l = refl
length_taken [] (suc n) l = absurd (omega (arith, l))
length_taken (x ∷ xs) zero l = refl
length_taken (x ∷ xs) (suc n) l = ap suc (length_taken xs n (omega (arith, l)))

pub at_end : (u : List Interface) (i c n : ℕ) → IsSome (candidate_at u i c) → n ≤ length (take i u) → length (take i u) ≤ n → n ≡ i
at_end u i c n s l g =
    let k = some_of (candidate_at u i c) s in
    let x = interface_at u i c k.0 (sym (candidate_is u i c) ∙ k.1) in
    let w = slice_get_within u i x.0 x.1 in
    let e = length_taken u i (omega (arith, w)) in
    omega (arith, e, l, g)

pub none_before : (u : List Interface) → 0 ≡ before own_candidates u 0
none_before [] = refl
none_before (x ∷ u) = refl
