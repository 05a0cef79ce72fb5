-- The search for a top entry by its name.
use Rattle.std.proofs.Common.{◌≡◌, ◌⊎◌, inl, inr, ℕ, zero, suc, ◌<◌, ◌≤◌, true, false, List, [], ◌∷◌, length, None, Result, Ok, Err, refl, sym, ◌∙◌, ap, subst, arith, get_or, bytes_eq}
use Rattle.std.specs.Prelude.{MatchResult}
use Rattle.std.specs.List.Sorted.{IsSearchInRange, IsBinarySearchResult}
use Rattle.std.specs.Ordering.{is_lt, nat_cmp}
use Rattle.std.specs.Cmp.Lexicographic.{slice_cmp}
use Rattle.std.proofs.lemmas.Slice.Eq.{bytes_eq-Decides}
use Rattle.std.proofs.lemmas.Bool.{cases_lt, and_parts}
use Rattle.zi_text.proofs.Searched.{Rise, IsNamed, IsGap, searched}
use Rattle.zi_memory.specs.declared.top_entry.TopEntry.{TopEntry}
use Rattle.zi_memory.specs.Memory.{tops_of, are_apart, is_before, IsAt, IsPlace}
use Rattle.zi_memory.proofs.TopsLemmas.{none_from_all, at_from_first, order_parts}
use Rattle.zi_tree.proofs.Order.{cmp, greater_flip, lt_apart, lt_less}
use Rattle.zi_tree.proofs.Found.{apart_flip}
use Rattle.zi_text.proofs.ListLaws.{is_less}

place_from_first : (es : List TopEntry) (n : List ℕ) (i : ℕ) (e : TopEntry) → i < length es → ((k : ℕ) (d : TopEntry) → k < i → is_lt (slice_cmp nat_cmp n (get_or es k d).name) ≡ false) → is_lt (slice_cmp nat_cmp n (get_or es i e).name) ≡ true → IsPlace n es i
place_from_first [] n i e lt h t = absurd (omega arith)
place_from_first (x ∷ es) n zero e lt h t = t
place_from_first (x ∷ es) n (suc i) e lt h t = (h 0 x (omega arith), place_from_first es n i e (omega arith) (λ k d l. h (suc k) d (omega arith)) t)

place_at_end : (es : List TopEntry) (n : List ℕ) → ((k : ℕ) (d : TopEntry) → k < length es → is_lt (slice_cmp nat_cmp n (get_or es k d).name) ≡ false) → IsPlace n es (length es)
place_at_end [] n h = refl
place_at_end (x ∷ es) n h = (h 0 x (omega arith), place_at_end es n (λ k d lt. h (suc k) d (omega arith)))

before_at : (m : List ℕ) (es : List TopEntry) (j : ℕ) (d : TopEntry) → is_before m es ≡ true → j < length es → is_lt (cmp m (get_or es j d).name) ≡ true
before_at m [] j d h lt = absurd (omega arith)
before_at m (x ∷ es) zero d h lt = (and_parts (is_lt (cmp m x.name)) (is_before m es) h).0
before_at m (x ∷ es) (suc j) d h lt = before_at m es j d (and_parts (is_lt (cmp m x.name)) (is_before m es) h).1 (omega arith)

rises : (es : List TopEntry) (i j : ℕ) (d : TopEntry) → are_apart es ≡ true → i < j → j < length es → is_lt (cmp (get_or es i d).name (get_or es j d).name) ≡ true
rises [] i j d a below lt = absurd (omega arith)
rises (x ∷ es) zero zero d a below lt = absurd (omega arith)
rises (x ∷ es) zero (suc j) d a below lt = before_at x.name es j d (order_parts x es a).0 (omega arith)
rises (x ∷ es) (suc i) zero d a below lt = absurd (omega arith)
rises (x ∷ es) (suc i) (suc j) d a below lt = rises es i j d (order_parts x es a).1 (omega arith) (omega arith)

-- the first of entries that are more than none
first : (es : List TopEntry) (k : ℕ) → k < length es → TopEntry
first [] k lt = absurd (omega arith)
first (e ∷ es) k lt = e

at_name : (es : List TopEntry) (n : List ℕ) (at : ℕ) → are_apart es ≡ true → IsNamed (λ (e : TopEntry). e.name) es n at → IsAt n es at
at_name es n at tree named = at_from_first es n at (first es at named.within) named.within before ((bytes_eq-Decides _ n).1 (named.same (first es at named.within)))
  where
    before : (k : ℕ) (d : TopEntry) → k < at → bytes_eq (get_or es k d).name n ≡ false
    before k d lt = lt_apart (get_or es k d).name n (subst (λ (y : List ℕ). is_lt (cmp (get_or es k d).name y) ≡ true) (named.same d) (rises es k at d tree lt named.within))

none_in_gap : (es : List TopEntry) (n : List ℕ) (at : ℕ) → IsGap (λ (e : TopEntry). e.name) es n at → tops_of es n ≡ None
none_in_gap es n at gap = none_from_all es n (λ k d lt. by_place k d lt (cases_lt k at))
  where
    by_place : (k : ℕ) (d : TopEntry) → k < length es → (k < at) ⊎ (at ≤ k) → bytes_eq (get_or es k d).name n ≡ false
    by_place k d lt (inl low) = lt_apart (get_or es k d).name n (ap is_lt (gap.less k d low))
    by_place k d lt (inr high) = apart_flip (get_or es k d).name n (lt_apart n (get_or es k d).name (greater_flip (get_or es k d).name n (gap.greater k d high lt)))

place_in_gap : (es : List TopEntry) (n : List ℕ) (at : ℕ) → IsGap (λ (e : TopEntry). e.name) es n at → IsPlace n es at
place_in_gap es n at gap = by_end (cases_lt at (length es))
  where
    not_before : (k : ℕ) (d : TopEntry) → k < at → is_lt (cmp n (get_or es k d).name) ≡ false
    not_before k d lt = lt_less (get_or es k d).name n (ap is_lt (gap.less k d lt))

    by_end : (at < length es) ⊎ (length es ≤ at) → IsPlace n es at
    by_end (inl lt) = let d : TopEntry = first es at lt in place_from_first es n at d lt not_before (greater_flip (get_or es at d).name n (gap.greater at d (omega arith) lt))
    by_end (inr ge) = let within : at ≤ length es = gap.within in let end : at ≡ length es = omega arith in subst (IsPlace n es) (sym end) (place_at_end es n (λ k d lt. not_before k d (omega arith)))

-- a binary search by name ends at the top entry, or at the place for it
pub top_found : (es : List TopEntry) → are_apart es ≡ true → (n : List ℕ) (r : Result ℕ ℕ) → IsSearchInRange r (length es) → IsBinarySearchResult (λ (e : TopEntry). slice_cmp nat_cmp e.name n) es r
    → MatchResult r (λ i. (i < length es) × IsAt n es i) (λ i. (i ≤ length es) × IsPlace n es i × (tops_of es n ≡ None))
top_found es tree n r in_range answer = by_result r (searched (λ (e : TopEntry). e.name) es rising n r in_range answer)
  where
    rising : Rise (λ (e : TopEntry). e.name) es
    rising i j d lt in_range = is_less _ (rises es i j d tree lt in_range)

    by_result : (r : Result ℕ ℕ) → MatchResult r (IsNamed (λ (e : TopEntry). e.name) es n) (IsGap (λ (e : TopEntry). e.name) es n)
        → MatchResult r (λ i. (i < length es) × IsAt n es i) (λ i. (i ≤ length es) × IsPlace n es i × (tops_of es n ≡ None))
    by_result (Ok i) named = (named.within, at_name es n i tree named)
    by_result (Err i) gap = (gap.within, place_in_gap es n i gap, none_in_gap es n i gap)
