-- Selections of distinct interfaces that are sorted each stand before all behind them.
use Rattle.std.proofs.Common.{◌≡◌, ℕ, ◌+◌, ◌<◌, true, false, List, [], ◌∷◌, ◌++◌, map, get_or, Option, Some, None, refl, sym, ap, subst, ◌∙◌, arith}
use Rattle.std.specs.Prelude.{bytes_eq, option_to_list, IsPermutation, IsSortedBy}
use Rattle.std.specs.Ordering.{nat_cmp, is_lt, is_eq, ordering_reverse}
use Rattle.std.specs.declared.cmp.Ordering.{Ordering}
use Rattle.std.specs.declared.cmp.Ordering.TheVariants.{Less, Equal, Greater}
use Rattle.std.specs.Option.{option_map}
use Rattle.std.specs.Cmp.Lexicographic.{slice_cmp}
use Rattle.std.specs.List.{IsDistinct, AllByRecursion}
use Rattle.std.proofs.lemmas.List.{get_or-map, length-map}
use Rattle.std.proofs.lemmas.List.Sorted.{ranks_by, sorted_far, IsPermutation-map}
use Rattle.std.proofs.lemmas.Cmp.{nat_list_cmp_total, nat_list_eq_equiv}
use Rattle.std.proofs.lemmas.Map.Text.{is_eq-slice_cmp}
use Rattle.std.proofs.lemmas.Slice.Eq.{bytes_eq-Decides}
use Rattle.std.proofs.lemmas.Map.Keys.{IsDistinct-IsPermutation, IsDistinct-head, IsDistinct-tail, IsDistinct-cons, apart_from_distinct}
use Rattle.std.proofs.lemmas.Map.Made.{IsDistinct-from_AllPairs}
use Rattle.zi_universe.specs.declared.types.Candidate.{Candidate}
use Rattle.zi_universe.specs.declared.types.Interface.{Interface}
use Rattle.zi_universe.specs.Whole.{IsWhole, uris_of}
use Rattle.zi_choice.specs.Choice.{Choice, chosen}
use Rattle.zi_choice.specs.Walk.{Walk}
use Rattle.zi_sels.specs.declared.types.Selection.{Selection}
use Rattle.zi_sels.specs.Chosen.{selection_by, selected_from, selected, AreSorted}

abbrev uri : Selection → List ℕ
uri item = item.interface

-- what is selected of distinct interfaces is of distinct ones
optional_apart : (P : List ℕ → Type 0) (u : List Interface) (s : Choice) (w : Walk) (i : ℕ) (x : Interface) (found : Option Candidate) (rest : List Selection)
    → P x.uri → AllByRecursion P (map uri rest) → AllByRecursion P (map uri (option_to_list (option_map (selection_by u s w i x.uri) found) ++ rest))
unfolding selection_by
optional_apart P u s w i x None rest here all = all
optional_apart P u s w i x (Some k) rest here all = (here, all)

all_selected : (P : List ℕ → Type 0) (u : List Interface) (s : Choice) (w : Walk) (i : ℕ) (is : List Interface)
    → AllByRecursion P (uris_of is) → AllByRecursion P (map uri (selected_from u s w i is))
all_selected P u s w i [] all = tt
all_selected P u s w i (x ∷ is) all =
    optional_apart P u s w i x (chosen u s i) (selected_from u s w (i + 1) is) all.0 (all_selected P u s w (i + 1) is all.1)

optional_distinct : (u : List Interface) (s : Choice) (w : Walk) (i : ℕ) (x : Interface) (found : Option Candidate) (rest : List Selection)
    → AllByRecursion (λ y. bytes_eq x.uri y ≡ false) (map uri rest) → IsDistinct bytes_eq (map uri rest)
    → IsDistinct bytes_eq (map uri (option_to_list (option_map (selection_by u s w i x.uri) found) ++ rest))
unfolding selection_by
optional_distinct u s w i x None rest apart distinct = distinct
optional_distinct u s w i x (Some k) rest apart distinct = IsDistinct-cons bytes_eq x.uri (map uri rest) apart distinct

distinct_selected : (u : List Interface) (s : Choice) (w : Walk) (i : ℕ) (is : List Interface)
    → IsDistinct bytes_eq (uris_of is) → IsDistinct bytes_eq (map uri (selected_from u s w i is))
distinct_selected u s w i [] distinct = distinct
distinct_selected u s w i (x ∷ is) distinct =
    optional_distinct u s w i x (chosen u s i) (selected_from u s w (i + 1) is)
    (all_selected (λ y. bytes_eq x.uri y ≡ false) u s w (i + 1) is (IsDistinct-head bytes_eq x.uri (uris_of is) distinct))
    (distinct_selected u s w (i + 1) is (IsDistinct-tail bytes_eq x.uri (uris_of is) distinct))

-- of two texts that differ, the one that isn't behind stands before
before : (x y : List ℕ) → bytes_eq x y ≡ false → is_lt (slice_cmp nat_cmp y x) ≡ false → slice_cmp nat_cmp x y ≡ Less
before x y apart behind = by (slice_cmp nat_cmp x y) refl
  where
    different : false ≡ true → ⊥
    different f = cc

    by : (o : Ordering) → slice_cmp nat_cmp x y ≡ o → slice_cmp nat_cmp x y ≡ Less
    by Less e = e
    by Equal e = absurd (different (sym apart ∙ (sym (is_eq-slice_cmp x y) ∙ ap is_eq e)))
    by Greater e = absurd (different (sym behind ∙ ap is_lt (nat_list_cmp_total.antisymm y x ∙ ap ordering_reverse e)))

pub sorted_apart : (xs : List Selection) → IsSortedBy (λ x y. is_lt (slice_cmp nat_cmp x.interface y.interface)) xs → IsDistinct bytes_eq (map uri xs) → AreSorted xs
sorted_apart xs up distinct i j d lt in_list =
    let x : Selection = get_or xs i d in
    let y : Selection = get_or xs j d in
    let apart : bytes_eq (get_or (map uri xs) i (uri d)) (get_or (map uri xs) j (uri d)) ≡ false =
    apart_from_distinct bytes_eq (map uri xs) i j (uri d) distinct lt (subst (λ n. j < n) (sym (length-map xs uri)) in_list) in
    let far : bytes_eq x.interface y.interface ≡ false =
    ap (λ q. bytes_eq q y.interface) (sym (get_or-map uri xs i d (uri d) (omega arith)))
    ∙ ap (bytes_eq (get_or (map uri xs) i (uri d))) (sym (get_or-map uri xs j d (uri d) in_list)) ∙ apart in
    before x.interface y.interface far
    (sorted_far (λ (a b : Selection). is_lt (slice_cmp nat_cmp a.interface b.interface)) (ranks_by nat_list_cmp_total (λ (a : Selection). a.interface)) xs up i j d (omega arith) in_list)

-- what is selected in a universe, sorted
pub sorted_selected : (u : List Interface) (s : Choice) (w : Walk) (items : List Selection) → IsWhole u → IsPermutation (selected u s w) items
    → IsSortedBy (λ x y. is_lt (slice_cmp nat_cmp x.interface y.interface)) items → AreSorted items
sorted_selected u s w items whole same up =
    sorted_apart items up
    (IsDistinct-IsPermutation bytes_eq nat_list_eq_equiv.symm (map uri (selected u s w)) (map uri items) (IsPermutation-map uri (selected u s w) items same)
    (distinct_selected u s w 0 u (IsDistinct-from_AllPairs bytes_eq-Decides (uris_of u) whole.apart)))
