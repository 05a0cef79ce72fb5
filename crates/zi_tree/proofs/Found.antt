-- The search for an entry by its name.
use Rattle.std.proofs.Common.{◌≡◌, ◌⊎◌, inl, inr, ℕ, ◌<◌, ◌≤◌, Bool, true, false, List, [], ◌∷◌, length, None, Result, Ok, Err, refl, sym, ◌∙◌, ap, subst, arith, get_or, bytes_eq}
use Rattle.std.specs.Prelude.{MatchResult}
use Rattle.std.specs.List.Sorted.{IsSearchInRange, IsBinarySearchResult}
use Rattle.std.specs.Ordering.{is_lt, nat_cmp}
use Rattle.std.specs.Cmp.Lexicographic.{slice_cmp}
use Rattle.std.proofs.lemmas.Slice.Eq.{bytes_eq-Decides}
use Rattle.std.proofs.lemmas.Bool.{cases_lt, true≢false}
use Rattle.zi_text.proofs.Searched.{Rise, IsNamed, IsGap, searched}
use Rattle.zi_tree.specs.declared.tree.Entry.{Entry}
use Rattle.zi_tree.specs.Views.{items_of, dir_of}
use Rattle.zi_tree.specs.Paths.{node_in}
use Rattle.zi_tree.specs.Places.{IsAt, IsPlace}
use Rattle.zi_tree.specs.Order.{is_tree}
use Rattle.zi_tree.proofs.Items.{none_from_all, at_from_first, place_from_first, place_at_end}
use Rattle.zi_tree.proofs.Order.{cmp, greater_flip, lt_apart, lt_less, rises}
use Rattle.zi_text.proofs.ListLaws.{is_less}

-- the first of entries that are more than none
first : (es : List Entry) (k : ℕ) → k < length es → Entry
first [] k lt = absurd (omega arith)
first (e ∷ es) k lt = e

at_name : (es : List Entry) (n : List ℕ) (at : ℕ) → is_tree (dir_of es) ≡ true → IsNamed (λ (e : Entry). e.name) es n at → IsAt n es at
at_name es n at tree named = at_from_first es n at (first es at named.within) named.within before ((bytes_eq-Decides _ n).1 (named.same (first es at named.within)))
  where
    before : (k : ℕ) (d : Entry) → k < at → bytes_eq (get_or es k d).name n ≡ false
    before k d lt = lt_apart (get_or es k d).name n (subst (λ (y : List ℕ). is_lt (cmp (get_or es k d).name y) ≡ true) (named.same d) (rises es k at d tree lt named.within))

pub apart_flip : (x y : List ℕ) → bytes_eq y x ≡ false → bytes_eq x y ≡ false
apart_flip x y h = by_test (bytes_eq x y) refl
  where
    by_test : (t : Bool) → bytes_eq x y ≡ t → bytes_eq x y ≡ false
    by_test false e = e
    by_test true e = absurd (true≢false (sym ((bytes_eq-Decides y x).1 (sym ((bytes_eq-Decides x y).0 e))) ∙ h))

none_in_gap : (es : List Entry) (n : List ℕ) (at : ℕ) → IsGap (λ (e : Entry). e.name) es n at → node_in n (items_of es) ≡ None
none_in_gap es n at gap = none_from_all es n (λ k d lt. by_place k d lt (cases_lt k at))
  where
    by_place : (k : ℕ) (d : Entry) → k < length es → (k < at) ⊎ (at ≤ k) → bytes_eq (get_or es k d).name n ≡ false
    by_place k d lt (inl low) = lt_apart (get_or es k d).name n (ap is_lt (gap.less k d low))
    by_place k d lt (inr high) = apart_flip (get_or es k d).name n (lt_apart n (get_or es k d).name (greater_flip (get_or es k d).name n (gap.greater k d high lt)))

place_in_gap : (es : List Entry) (n : List ℕ) (at : ℕ) → IsGap (λ (e : Entry). e.name) es n at → IsPlace n es at
place_in_gap es n at gap = by_end (cases_lt at (length es))
  where
    not_before : (k : ℕ) (d : Entry) → k < at → is_lt (cmp n (get_or es k d).name) ≡ false
    not_before k d lt = lt_less (get_or es k d).name n (ap is_lt (gap.less k d lt))

    by_end : (at < length es) ⊎ (length es ≤ at) → IsPlace n es at
    by_end (inl lt) = let d : Entry = first es at lt in place_from_first es n at d lt not_before (greater_flip (get_or es at d).name n (gap.greater at d (omega arith) lt))
    by_end (inr ge) = let within : at ≤ length es = gap.within in let end : at ≡ length es = omega arith in subst (IsPlace n es) (sym end) (place_at_end es n (λ k d lt. not_before k d (omega arith)))

-- a binary search by name ends at the entry, or at the place for it
pub entry_found : (es : List Entry) → is_tree (dir_of es) ≡ true → (n : List ℕ) (r : Result ℕ ℕ) → IsSearchInRange r (length es) → IsBinarySearchResult (λ (e : Entry). slice_cmp nat_cmp e.name n) es r
    → MatchResult r (λ i. (i < length es) × IsAt n es i) (λ i. (i ≤ length es) × IsPlace n es i × (node_in n (items_of es) ≡ None))
entry_found es tree n r in_range answer = by_result r (searched (λ (e : Entry). e.name) es rising n r in_range answer)
  where
    rising : Rise (λ (e : Entry). e.name) es
    rising i j d lt in_range = is_less _ (rises es i j d tree lt in_range)

    by_result : (r : Result ℕ ℕ) → MatchResult r (IsNamed (λ (e : Entry). e.name) es n) (IsGap (λ (e : Entry). e.name) es n)
        → MatchResult r (λ i. (i < length es) × IsAt n es i) (λ i. (i ≤ length es) × IsPlace n es i × (node_in n (items_of es) ≡ None))
    by_result (Ok i) named = (named.within, at_name es n i tree named)
    by_result (Err i) gap = (gap.within, place_in_gap es n i gap, none_in_gap es n i gap)
