-- Names that rise: the last of them, and a search.
use Rattle.std.proofs.Common.{◌≡◌, ◌⊎◌, inl, inr, ℕ, zero, suc, ◌+◌, ◌<◌, ◌≤◌, Bool, true, false, ◌&&◌, not, List, [], ◌∷◌, length, Some, None, refl, sym, ◌∙◌, ap, arith, get_or, bytes_eq, ◌++◌, reverse, Result, Ok, Err, is_ok}
use Rattle.std.specs.Prelude.{MatchResult}
use Rattle.std.specs.List.{list_all, list_any}
use Rattle.std.specs.List.Sorted.{IsSearchInRange, IsBinarySearchResult}
use Rattle.std.specs.Ordering.{is_lt, nat_cmp}
use Rattle.std.specs.Cmp.Lexicographic.{slice_cmp}
use Rattle.std.proofs.lemmas.Slice.Eq.{bytes_eq-Decides}
use Rattle.std.proofs.lemmas.List.{reverse-append}
use Rattle.zi_manifest.specs.Sketch.{joined}
use Rattle.zi_manifest.specs.declared.open.Open.{Open}
use Rattle.std.proofs.lemmas.Bool.{cases_lt, and_parts, and_from, not_from_false, or_left, or_right, or_from}
use Rattle.std.proofs.lemmas.Option.{same_Some}
use Rattle.zi_text.proofs.Searched.{Rise, IsNamed, IsGap, searched}
use Rattle.zi_tree.proofs.Order.{lt_trans, greater_flip, lt_apart}
use Rattle.zi_manifest.specs.Reading.{all_before, rises, all_rise, is_free, is_above, fresh, back, enter, TakesFolder}
use Rattle.zi_manifest.proofs.Accepted.{lt}
use Rattle.zi_tree.proofs.Found.{apart_flip}
use Rattle.zi_text.proofs.ListLaws.{is_less, if_true, if_false}

-- a name that stands before each of these stands before each at a place
before_at : (m : List ℕ) (ns : List (List ℕ)) (j : ℕ) (d : List ℕ) → list_all (λ k. lt m k) ns ≡ true → j < length ns → lt m (get_or ns j d) ≡ true
before_at m [] j d h l = absurd (omega arith)
before_at m (n ∷ ns) zero d h l = (and_parts (lt m n) (list_all (λ k. lt m k) ns) h).0
before_at m (n ∷ ns) (suc j) d h l = before_at m ns j d (and_parts (lt m n) (list_all (λ k. lt m k) ns) h).1 (omega arith)

names_rise : (ns : List (List ℕ)) (i j : ℕ) (d : List ℕ) → rises ns ≡ true → i < j → j < length ns → lt (get_or ns i d) (get_or ns j d) ≡ true
names_rise [] i j d h l k = absurd (omega arith)
names_rise (n ∷ ns) i zero d h l k = absurd (omega arith)
names_rise (n ∷ ns) zero (suc j) d h l k = before_at n ns j d (and_parts (list_all (λ k. lt n k) ns) (rises ns) h).0 (omega arith)
names_rise (n ∷ ns) (suc i) (suc j) d h l k = names_rise ns i j d (and_parts (list_all (λ k. lt n k) ns) (rises ns) h).1 (omega arith) (omega arith)

same_at : (ns : List (List ℕ)) (i : ℕ) (d x : List ℕ) → i < length ns → get_or ns i d ≡ get_or ns i x
same_at [] i d x l = absurd (omega arith)
same_at (n ∷ ns) zero d x l = refl
same_at (n ∷ ns) (suc i) d x l = same_at ns i d x (omega arith)

-- where each at a place stands before n, all do
all_from : (ns : List (List ℕ)) (n : List ℕ) → ((k : ℕ) (d : List ℕ) → k < length ns → lt (get_or ns k d) n ≡ true) → all_before ns n ≡ true
all_from [] n h = refl
all_from (m ∷ ns) n h = and_from (lt m n) (all_before ns n) (h 0 n (omega arith)) (all_from ns n (λ k d l. h (suc k) d (omega arith)))

all_at : (ns : List (List ℕ)) (n : List ℕ) (j : ℕ) (d : List ℕ) → all_before ns n ≡ true → j < length ns → lt (get_or ns j d) n ≡ true
all_at [] n j d h l = absurd (omega arith)
all_at (m ∷ ns) n zero d h l = (and_parts (lt m n) (all_before ns n) h).0
all_at (m ∷ ns) n (suc j) d h l = all_at ns n j d (and_parts (lt m n) (all_before ns n) h).1 (omega arith)

-- the last decides
pub last_decides : (ns : List (List ℕ)) (n m : List ℕ) (i : ℕ) → rises ns ≡ true → i + 1 ≡ length ns → m ≡ get_or ns i m → lt m n ≡ all_before ns n
last_decides ns n m i r e is = by_test (lt m n) refl
  where
    whole : lt m n ≡ true → (k : ℕ) (d : List ℕ) → k < length ns → lt (get_or ns k d) n ≡ true
    whole h k d l = by_place (cases_lt k i)
      where
        here : lt (get_or ns i d) n ≡ true
        here = ap (λ x. lt x n) (same_at ns i d m (omega (arith, e)) ∙ sym is) ∙ h

        by_place : (k < i) ⊎ (i ≤ k) → lt (get_or ns k d) n ≡ true
        by_place (inl low) = lt_trans (get_or ns k d) (get_or ns i d) n (names_rise ns k i d r low (omega (arith, e))) here
        by_place (inr ge) = let same : k ≡ i = omega (arith, e) in ap (λ j. lt (get_or ns j d) n) same ∙ here

    by_test : (b : Bool) → lt m n ≡ b → lt m n ≡ all_before ns n
    by_test true h = h ∙ sym (all_from ns n (whole h))
    by_test false h = h ∙ by_all (all_before ns n) refl
      where
        by_all : (b : Bool) → all_before ns n ≡ b → false ≡ all_before ns n
        by_all false k = sym k
        by_all true k = absurd (cc (sym (ap (λ x. lt x n) is ∙ all_at ns n i m k (omega (arith, e))) ∙ h))

any_at : (ns : List (List ℕ)) (n : List ℕ) (i : ℕ) (d : List ℕ) → i < length ns → bytes_eq (get_or ns i d) n ≡ true → list_any (λ m. bytes_eq m n) ns ≡ true
any_at [] n i d l h = absurd (omega arith)
any_at (m ∷ ns) n zero d l h = or_left (bytes_eq m n) (list_any (λ m. bytes_eq m n) ns) h
any_at (m ∷ ns) n (suc i) d l h = or_right (bytes_eq m n) (list_any (λ m. bytes_eq m n) ns) (any_at ns n i d (omega arith) h)

none_from : (ns : List (List ℕ)) (n : List ℕ) → ((k : ℕ) (d : List ℕ) → k < length ns → bytes_eq (get_or ns k d) n ≡ false) → list_any (λ m. bytes_eq m n) ns ≡ false
none_from [] n h = refl
none_from (m ∷ ns) n h = or_from (bytes_eq m n) (list_any (λ m. bytes_eq m n) ns) (h 0 n (omega arith)) (none_from ns n (λ k d l. h (suc k) d (omega arith)))

-- a binary search ends at a place where the name is one of them
pub name_found : (ns : List (List ℕ)) → rises ns ≡ true → (n : List ℕ) (r : Result ℕ ℕ) → IsSearchInRange r (length ns) → IsBinarySearchResult (λ (m : List ℕ). slice_cmp nat_cmp m n) ns r
    → is_ok r ≡ list_any (λ m. bytes_eq m n) ns
name_found ns ordered n r in_range answer = by_result r (searched (λ (m : List ℕ). m) ns rising n r in_range answer)
  where
    rising : Rise (λ (m : List ℕ). m) ns
    rising i j d less within = is_less _ (names_rise ns i j d ordered less within)

    by_result : (r : Result ℕ ℕ) → MatchResult r (IsNamed (λ (m : List ℕ). m) ns n) (IsGap (λ (m : List ℕ). m) ns n) → is_ok r ≡ list_any (λ m. bytes_eq m n) ns
    by_result (Ok i) named = sym (any_at ns n i n named.within ((bytes_eq-Decides _ n).1 (named.same n)))
    by_result (Err i) gap = sym (none_from ns n (λ k d l. by_place k d l (cases_lt k i)))
      where
        by_place : (k : ℕ) (d : List ℕ) → k < length ns → (k < i) ⊎ (i ≤ k) → bytes_eq (get_or ns k d) n ≡ false
        by_place k d l (inl less) = lt_apart (get_or ns k d) n (ap is_lt (gap.less k d less))
        by_place k d l (inr ge) = apart_flip (get_or ns k d) n (lt_apart n (get_or ns k d) (greater_flip (get_or ns k d) n (gap.greater k d ge l)))

-- the folder pushed last is the innermost
last_first : (fs : List Open) (d : Open) → reverse (fs ++ d ∷ []) ≡ d ∷ reverse fs
last_first fs d = reverse-append fs (d ∷ [])

found_here : (p : List ℕ) (c : Open) (cs ds : List Open) (d : Open) → all_rise (c ∷ cs) ≡ true → ((e : back p cs ≡ Some (d, ds)) → (d.path ≡ p) × (rises d.leaves ≡ true)) → back p (c ∷ cs) ≡ Some (d, ds) → (d.path ≡ p) × (rises d.leaves ≡ true)
found_here p c cs ds d r later = by_test (bytes_eq c.path p) refl
  where
    by_test : (b : Bool) → bytes_eq c.path p ≡ b → back p (c ∷ cs) ≡ Some (d, ds) → (d.path ≡ p) × (rises d.leaves ≡ true)
    by_test true e h =
        let same : c ≡ d = ap (λ (o : Open × List Open). o.0) (same_Some (c, cs) (d, ds) (sym (if_true (bytes_eq c.path p) (Some (c, cs)) (back p cs) e) ∙ h)) in
        (ap (λ (x : Open). x.path) (sym same) ∙ (bytes_eq-Decides c.path p).0 e, ap (λ (x : Open). rises x.leaves) (sym same) ∙ (and_parts (rises c.leaves) (all_rise cs) r).0)
    by_test false e h = later (sym (if_false (bytes_eq c.path p) (Some (c, cs)) (back p cs) e) ∙ h)

-- the folder found is that at the path, and its names rise
pub found : (p : List ℕ) (cs ds : List Open) (d : Open) → all_rise cs ≡ true → back p cs ≡ Some (d, ds) → (d.path ≡ p) × (rises d.leaves ≡ true)
found p [] ds d r h = absurd (cc h)
found p (c ∷ cs) ds d r h = found_here p c cs ds d r (λ e. found p cs ds d (and_parts (rises c.leaves) (all_rise cs) r).1 e) h

pub not_behind : (p n : List ℕ) (cs ds : List Open) (c : Open) → back p cs ≡ Some (c, ds) → is_above c.folder n ≡ false → enter n (back p cs) ≡ None
not_behind p n cs ds c h k = ap (enter n) h ∙ rw k refl

pub not_free : (p n : List ℕ) (cs ds : List Open) (c : Open) → back p cs ≡ Some (c, ds) → list_any (λ m. bytes_eq m n) c.leaves ≡ true → enter n (back p cs) ≡ None
not_free p n cs ds c h k = ap (enter n) h ∙ if_false (is_above c.folder n && is_free c.leaves n) _ None (by_test (is_above c.folder n))
  where
    by_test : (b : Bool) → (b && is_free c.leaves n) ≡ false
    by_test false = refl
    by_test true = ap not k

pub entered : (p n q : List ℕ) (cs fs gs hs : List Open) (c d e : Open) → back p cs ≡ Some (c, reverse fs) → all_rise cs ≡ true → is_above c.folder n ≡ true → list_any (λ m. bytes_eq m n) c.leaves ≡ false
    → gs ≡ fs ++ d ∷ [] → d ≡ record c { folder = Some n } → hs ≡ gs ++ e ∷ [] → e ≡ fresh q → q ≡ joined c.path n → TakesFolder p n cs (Some q) (reverse hs)
entered p n q cs fs gs hs c d e h r a f pd de pe ee qe = (
  ap (enter n) h ∙ if_true (is_above c.folder n && is_free c.leaves n) (Some (fresh (joined c.path n) ∷ record c { folder = Some n } ∷ reverse fs)) None (and_from (is_above c.folder n) (is_free c.leaves n) a (not_from_false (list_any (λ m. bytes_eq m n) c.leaves) f)) ∙ ap Some (sym open_now),
  qe ∙ ap (λ x. joined x n) (found p cs (reverse fs) c r h).0,
)
  where
    open_now : reverse hs ≡ fresh (joined c.path n) ∷ record c { folder = Some n } ∷ reverse fs
    open_now = ap reverse pe ∙ last_first gs e ∙ ap (λ (x : Open). x ∷ reverse gs) (ee ∙ ap fresh qe) ∙ ap (λ (l : List Open). fresh (joined c.path n) ∷ l) (ap reverse pd ∙ last_first fs d ∙ ap (λ (x : Open). x ∷ reverse fs) de)
