-- What a binary search finds among things whose names rise.
use Rattle.std.proofs.Common.{◌≡◌, ℕ, ◌<◌, ◌≤◌, List, length, get_or, refl, subst, ◌∙◌, sym, ap, arith, inl, inr, lit≤, Result, Ok, Err}
use Rattle.std.specs.Prelude.{MatchResult}
use Rattle.std.specs.List.Sorted.{IsSearchInRange, IsBinarySearchResult, IsNonDecreasingBy}
use Rattle.std.specs.Ordering.{nat_cmp, ordering_index}
use Rattle.std.specs.Cmp.Lexicographic.{slice_cmp}
use Rattle.std.specs.FinMap.{slice_cmp-IsAntisymmetric, nat_cmp-IsAntisymmetric}
use Rattle.std.specs.declared.cmp.Ordering.{Ordering}
use Rattle.std.specs.declared.cmp.Ordering.TheVariants.{Less, Equal, Greater}
use Rattle.std.proofs.lemmas.Cmp.{nat_list_cmp_total}
use Rattle.std.proofs.Math.Nat.{eq-or-lt_of_le}

-- each name is less than a later one
abbrev pub Rise : {X : Type 0} → (X → List ℕ) → List X → Type 0
Rise {X} name xs = (i j : ℕ) (d : X) → i < j → j < length xs → slice_cmp nat_cmp (name (get_or xs i d)) (name (get_or xs j d)) ≡ Less

-- what stands at a place has the name
pub record IsNamed {X : Type 0} (name : X → List ℕ) (xs : List X) (n : List ℕ) (at : ℕ) : Type 0 where
  pub within : at < length xs
  pub same : (d : X) → name (get_or xs at d) ≡ n

-- the names before a place are less, and those from it on are greater
pub record IsGap {X : Type 0} (name : X → List ℕ) (xs : List X) (n : List ℕ) (at : ℕ) : Type 0 where
  pub within : at ≤ length xs
  pub less : (j : ℕ) (d : X) → j < at → slice_cmp nat_cmp (name (get_or xs j d)) n ≡ Less
  pub greater : (j : ℕ) (d : X) → at ≤ j → j < length xs → slice_cmp nat_cmp (name (get_or xs j d)) n ≡ Greater

-- two texts that compare as equal are one
pub same_equal : (a b : List ℕ) → slice_cmp nat_cmp a b ≡ Equal → a ≡ b
same_equal a b e = slice_cmp-IsAntisymmetric nat_cmp-IsAntisymmetric a b e

-- the comparisons with a name rise, as a binary search asks
comparisons_rise : {X : Type 0} (name : X → List ℕ) (xs : List X) → Rise name xs → (n : List ℕ) → IsNonDecreasingBy (λ x. ordering_index (slice_cmp nat_cmp (name x) n)) xs
comparisons_rise name xs rising n = λ i j d le in_range. elim (eq-or-lt_of_le le) [
  | inl e ↦ rw e le_same
  | inr lt ↦ rise (slice_cmp nat_cmp (name (get_or xs i d)) n) (slice_cmp nat_cmp (name (get_or xs j d)) n)
      (λ e. nat_list_cmp_total.trans (name (get_or xs i d)) (name (get_or xs j d)) n (rising i j d lt in_range) e)
      (λ e. subst (λ t. slice_cmp nat_cmp (name (get_or xs i d)) t ≡ Less) (same_equal (name (get_or xs j d)) n e) (rising i j d lt in_range))
]
  where
    le_same : {k : ℕ} → k ≤ k
    le_same {k} = omega arith

    rise : (a b : Ordering) → (b ≡ Less → a ≡ Less) → (b ≡ Equal → a ≡ Less) → ordering_index a ≤ ordering_index b
    rise a Less h k = rw (h refl) le_same
    rise a Equal h k = rw (k refl) (lit≤ tt)
    rise Less Greater h k = lit≤ tt
    rise Equal Greater h k = lit≤ tt
    rise Greater Greater h k = lit≤ tt

-- it ends at the name, or at the gap for it
pub searched : {X : Type 0} (name : X → List ℕ) (xs : List X) → Rise name xs → (n : List ℕ) (r : Result ℕ ℕ) → IsSearchInRange r (length xs)
    → IsBinarySearchResult (λ x. slice_cmp nat_cmp (name x) n) xs r → MatchResult r (IsNamed name xs n) (IsGap name xs n)
searched name xs rising n (Ok at) in_range equal = record { within = in_range; same = λ d. same_equal (name (get_or xs at d)) n (equal d) }
searched name xs rising n (Err at) in_range parted = record {
  within = in_range;
  less = λ j d lt. (parted (comparisons_rise name xs rising n)).0 j d (omega arith) lt;
  greater = λ j d le lt. (parted (comparisons_rise name xs rising n)).1 j d le lt;
}
