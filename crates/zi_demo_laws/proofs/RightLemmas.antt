-- Each row of the demonstration is written and read as it stands, and short; its versions fall; its choice meets what it says.
use Rattle.std.proofs.Common.{◌≡◌, ℕ, zero, suc, ◌+◌, ◌*◌, ◌-◌, ◌^◌, ◌<◌, ◌≤◌, Bool, true, false, List, [], ◌∷◌, ◌++◌, map, length, codes, Some, None, refl, sym, ap, subst, ◌∙◌, arith}
use Rattle.std.specs.Prelude.{◌==◌, is_some, decimal, slice_get, option_map, if◌then◌else◌}
use Rattle.std.specs.Char.{is_ascii_digit}
use Rattle.std.specs.List.{AllByRecursion}
use Rattle.std.specs.Str.{all_ascii_digits}
use Rattle.std.proofs.lemmas.Bool.{and_parts}
use Rattle.std.proofs.lemmas.Bool.Decides.{nat_tests}
use Rattle.std.proofs.lemmas.Fmt.{decimal_digit, digits_decimal, length-decimal-le}
use Rattle.std.proofs.lemmas.List.{length-append, length-map}
use Rattle.std.proofs.lemmas.Str.Parse.{numerals_by_value, tells_all_ascii_digits}
use Rattle.zi_elements.specs.Forest.{Forest, none, Elem, nodes_view}
use Rattle.zi_docout.specs.Amiss.{first_amiss}
use Rattle.zi_docout.specs.Elements.{nodes}
use Rattle.zi_text.specs.Pieces.{pieces}
use Rattle.zi_version.specs.Value.{value}
use Rattle.zi_version.specs.Range.{alternative, words, expression}
use Rattle.zi_address.specs.Texts.{same, pieces_of}
use Rattle.zi_address.specs.Address.{path_of, settled, without_last, placed}
use Rattle.zi_reading.specs.Words.{repeated}
use Rattle.zi_faults.specs.Faults.{share}
use Rattle.zi_universe.specs.Whole.{feed_limit}
use Rattle.zi_choice.specs.Vars.{total}
use Rattle.zi_demo.specs.Feeds.{restricts_elem, version, numbers, numbered, p_q_r, needs, two_versions, three_versions, interface, text_of}
use Rattle.zi_demo.specs.Plain.{ArePlain}
use Rattle.zi_demo.proofs.WritableLemmas.{seen, two_written, three_written, root_written}
use Rattle.zi_demo_laws.proofs.LikeLemmas.{held_nodes, held_back}
use Rattle.zi_demo_laws.proofs.RowLemmas.{Piece, piece_elem, Need, Bound, Version, version_elem, Row, feed_row, saying, bounds, root_row, two_row, three_row, later_row, p_row, q_row, r_row, last_rows, other_rows, names_of, rows, needed_names, names_are, needed_elems, bound_elems}
use Rattle.zi_demo_laws.proofs.PieceLemmas.{IsRightPiece}
use Rattle.zi_demo_laws.proofs.VersionLemmas.{version_at, IsDigit, folder}
use Rattle.zi_demo_laws.proofs.FeedLemmas.{IsRightVersion, HaveOwnIds, IsRightRow}
use Rattle.zi_demo_laws.proofs.LengthLemmas.{IsShortPiece, text_short}
use Rattle.zi_demo_laws.proofs.CandidateLemmas.{Fall, one_falls, two_fall, three_fall, all_wants, bounds_want}
use Rattle.zi_demo_laws.proofs.ValidLemmas.{Finds, IsMetRow}

-- Versions.

one_right : IsDigit 49
unfolding value
one_right = record { right = refl; value = refl }

two_right : IsDigit 50
unfolding value
two_right = record { right = refl; value = refl }

three_right : IsDigit 51
unfolding value
three_right = record { right = refl; value = refl }

needs_right : (names : List (List ℕ)) → AllByRecursion IsRightPiece (map Need names)
needs_right [] = tt
needs_right (name ∷ names) = (tt, needs_right names)

-- the three ranges
from_two : IsRightPiece (Bound (codes "2..") [])
unfolding expression alternative words value
from_two = refl

not_three : IsRightPiece (Bound (codes "!3") [])
unfolding expression alternative words value
not_three = refl

not_two : IsRightPiece (Bound (codes "!2") [])
unfolding expression alternative words value
not_two = refl

bounds_right : (range : List ℕ) (others : List (List ℕ)) → IsRightPiece (Bound range []) → AllByRecursion IsRightPiece (bounds range others)
bounds_right range [] h = tt
bounds_right range (name ∷ others) h = (h, bounds_right range others h)

version_one : (xs : List Piece) → AllByRecursion IsRightPiece xs → IsRightVersion (saying 1 xs)
version_one xs h = record { small = omega arith; digit = one_right; says = h }

version_two : (xs : List Piece) → AllByRecursion IsRightPiece xs → IsRightVersion (saying 2 xs)
version_two xs h = record { small = omega arith; digit = two_right; says = h }

version_three : (xs : List Piece) → AllByRecursion IsRightPiece xs → IsRightVersion (saying 3 xs)
version_three xs h = record { small = omega arith; digit = three_right; says = h }

-- Their ids are their own.

one_id : (xs : List Piece) → HaveOwnIds (saying 1 xs ∷ [])
one_id xs [] h = refl
one_id xs (a ∷ []) h = refl
one_id xs (a ∷ b ∷ rs) h = absurd h.1

two_apart : (f g : Forest) (p q : ℕ) → repeated (share (codes "id")) (version_at 50 f p ∷ version_at 49 g q ∷ []) ≡ []
unfolding same
two_apart f g p q = refl

two_ids : (xs ys : List Piece) → HaveOwnIds (saying 2 xs ∷ saying 1 ys ∷ [])
two_ids xs ys [] h = refl
two_ids xs ys (a ∷ []) h = refl
two_ids xs ys (a ∷ b ∷ []) h =
    ap (λ e. repeated (share (codes "id")) (e ∷ b ∷ [])) h.0.so ∙ (ap (λ e. repeated (share (codes "id")) (version_at 50 a.inside a.place ∷ e ∷ [])) h.1.0.so ∙ two_apart a.inside b.inside a.place b.place)
two_ids xs ys (a ∷ b ∷ c ∷ rs) h = absurd h.1.1

three_apart : (f g k : Forest) (p q r : ℕ) → repeated (share (codes "id")) (version_at 51 f p ∷ version_at 50 g q ∷ version_at 49 k r ∷ []) ≡ []
unfolding same
three_apart f g k p q r = refl

three_ids : (xs ys zs : List Piece) → HaveOwnIds (saying 3 xs ∷ saying 2 ys ∷ saying 1 zs ∷ [])
three_ids xs ys zs [] h = refl
three_ids xs ys zs (a ∷ []) h = refl
three_ids xs ys zs (a ∷ b ∷ []) h = absurd h.1.1
three_ids xs ys zs (a ∷ b ∷ c ∷ []) h =
    ap (λ e. repeated (share (codes "id")) (e ∷ b ∷ c ∷ [])) h.0.so
    ∙ (ap (λ e. repeated (share (codes "id")) (version_at 51 a.inside a.place ∷ e ∷ c ∷ [])) h.1.0.so
    ∙ (ap (λ e. repeated (share (codes "id")) (version_at 51 a.inside a.place ∷ version_at 50 b.inside b.place ∷ e ∷ [])) h.1.1.0.so
    ∙ three_apart a.inside b.inside c.inside a.place b.place c.place))
three_ids xs ys zs (a ∷ b ∷ c ∷ d ∷ rs) h = absurd h.1.1.1

-- Where they lie.

no_slash : (t : List ℕ) → all_ascii_digits t ≡ true → (pieces 47 (t ++ codes ".xml")).1 ≡ []
no_slash [] h = refl
no_slash (c ∷ t) h =
    let k = and_parts (is_ascii_digit c) (all_ascii_digits t) h in
    let rest : List ℕ × List (List ℕ) = pieces 47 (t ++ codes ".xml") in
    let cut : Bool → List ℕ × List (List ℕ) = λ b. if b then ([], rest.0 ∷ rest.1) else (c ∷ rest.0, rest.1) in
    ap (λ (b : Bool). (cut b).1) (other c k.0) ∙ no_slash t k.1
  where
    other : (c : ℕ) → is_ascii_digit c ≡ true → (c == 47) ≡ false
    other c h = grind (arith, nat_tests)

abbrev lies_by : List ℕ → List (List ℕ) → Bool
lies_by t ts = is_some (option_map path_of (settled (without_last ([] ∷ codes "demo" ∷ (97 ∷ t) ∷ ts) ++ pieces_of 47 (codes "."))))

lies_so : (i : ℕ) → is_some (folder (numbered i)) ≡ lies_by (pieces 47 (decimal i ++ codes ".xml")).0 (pieces 47 (decimal i ++ codes ".xml")).1
unfolding placed
lies_so i = refl

lies_there : (t : List ℕ) → lies_by t [] ≡ true
unfolding same
lies_there t = refl

numbered_lies : (i : ℕ) → i < 2 ^ 64 → is_some (folder (numbered i)) ≡ true
numbered_lies i h =
    lies_so i
    ∙ (ap (lies_by (pieces 47 (decimal i ++ codes ".xml")).0) (no_slash (decimal i) (digits_decimal (numerals_by_value (λ t. all_ascii_digits t ≡ true) tells_all_ascii_digits) i h))
    ∙ lies_there (pieces 47 (decimal i ++ codes ".xml")).0)

root_lies : is_some (folder (codes "root")) ≡ true
unfolding placed same
root_lies = refl

p_lies : is_some (folder (codes "p")) ≡ true
unfolding placed same
p_lies = refl

q_lies : is_some (folder (codes "q")) ≡ true
unfolding placed same
q_lies = refl

r_lies : is_some (folder (codes "r")) ≡ true
unfolding placed same
r_lies = refl

-- They can be written.

held_fine : (es : List Elem) → first_amiss (interface (nodes_view (held_nodes es))) ≡ None → first_amiss (interface (nodes es)) ≡ None
held_fine es h = sym (ap (λ (f : Forest). first_amiss (interface f)) (seen (held_nodes es) es (held_back es))) ∙ h

root_fine : (n : ℕ) → 1 ≤ n → n < 2 ^ 32 → first_amiss (interface (nodes (map version_elem (root_row (names_of (other_rows n))).versions))) ≡ None
unfolding needs
root_fine n low h =
    ap (λ (v : List (List ℕ)). first_amiss (interface (nodes (map version_elem (root_row v).versions)))) (names_are n low)
    ∙ (ap (λ (v : List Elem). first_amiss (interface (nodes (version 1 (nodes v) ∷ [])))) (needed_elems (needed_names n))
    ∙ held_fine (version 1 (nodes (needs n)) ∷ []) (root_written (held_nodes (version 1 (nodes (needs n)) ∷ [])) n (held_back (version 1 (nodes (needs n)) ∷ [])) h))

two_fine : (name : List ℕ) (others : List (List ℕ)) (pick : ℕ) → ArePlain others → first_amiss (interface (nodes (map version_elem (two_row name others pick).versions))) ≡ None
two_fine name others pick h =
    ap (λ (v : List Elem). first_amiss (interface (nodes (version 2 (nodes v) ∷ version 1 none ∷ [])))) (bound_elems (codes "2..") others)
    ∙ held_fine (two_versions others) (two_written (held_nodes (two_versions others)) others (held_back (two_versions others)) h)

three_fine : (name : List ℕ) (others : List (List ℕ)) (pick : ℕ) → ArePlain others → first_amiss (interface (nodes (map version_elem (three_row name others pick).versions))) ≡ None
three_fine name others pick h =
    ap (λ (v : List Elem). first_amiss (interface (nodes (version 3 (nodes v) ∷ version 2 (nodes (map piece_elem (bounds (codes "!2") others))) ∷ version 1 none ∷ [])))) (bound_elems (codes "!3") others)
    ∙ (ap (λ (v : List Elem). first_amiss (interface (nodes (version 3 (nodes (map (restricts_elem (codes "!3")) others)) ∷ version 2 (nodes v) ∷ version 1 none ∷ [])))) (bound_elems (codes "!2") others)
    ∙ held_fine (three_versions others) (three_written (held_nodes (three_versions others)) others (held_back (three_versions others)) h))

-- They are short.

one_short : length (decimal 1) ≤ 20
one_short = let e : length (decimal 1) ≡ 1 = ap length (decimal_digit 1 (omega arith)) in omega (arith, e)

two_short : length (decimal 2) ≤ 20
two_short = let e : length (decimal 2) ≡ 1 = ap length (decimal_digit 2 (omega arith)) in omega (arith, e)

three_short : length (decimal 3) ≤ 20
three_short = let e : length (decimal 3) ≡ 1 = ap length (decimal_digit 3 (omega arith)) in omega (arith, e)

abbrev AreShort : List (List ℕ) → Type 0
AreShort names = AllByRecursion (λ (name : List ℕ). length name ≤ 20) names

needs_short : (names : List (List ℕ)) → AreShort names → AllByRecursion IsShortPiece (map Need names)
needs_short [] h = tt
needs_short (name ∷ names) h = (h.0, needs_short names h.1)

bounds_short : (range : List ℕ) (others : List (List ℕ)) → length range ≤ 20 → AreShort others → AllByRecursion IsShortPiece (bounds range others)
bounds_short range [] k h = tt
bounds_short range (name ∷ others) k h = ((k, h.0), bounds_short range others k h.1)

numbered_short : (i : ℕ) → i < 10000 → length (numbered i) ≤ 20
numbered_short i h =
    let e : length (decimal i) ≤ 4 = length-decimal-le 4 i (omega arith) (omega arith) (omega arith) in
    omega (arith, e)

all_short : (k m : ℕ) → k + m ≤ 10000 → AreShort (map numbered (numbers k m) ++ p_q_r)
all_short k zero h = (omega arith, (omega arith, (omega arith, tt)))
all_short k (suc m) h = (numbered_short k (omega arith), all_short (k + 1) m (omega arith))

numbers_length : (k m : ℕ) → length (numbers k m) ≡ m
numbers_length k zero = refl
numbers_length k (suc m) = ap suc (numbers_length (k + 1) m)

pub needed_length : (n : ℕ) → length (needed_names n) ≡ n + 3
needed_length n =
    let a : length (map numbered (numbers 1 n) ++ p_q_r) ≡ length (map numbered (numbers 1 n)) + 3 = length-append (map numbered (numbers 1 n)) p_q_r in
    let b : length (map numbered (numbers 1 n)) ≡ length (numbers 1 n) = length-map (numbers 1 n) numbered in
    let c : length (numbers 1 n) ≡ n = numbers_length 1 n in
    omega (arith, a, b, c)

-- The rows.

pub record IsFine (row : Row) : Type 0 where
  pub right : IsRightRow row
  pub short : length (text_of (feed_row row)) ≤ feed_limit
  pub falls : Fall row.versions
  pub few : length row.versions ≤ 3

pub root_is_fine : (n : ℕ) → 1 ≤ n → n ≤ 1000 → IsFine (root_row (names_of (other_rows n)))
root_is_fine n low high =
    let names : List (List ℕ) = names_of (other_rows n) in
    let row : Row = root_row names in
    let shorts : AreShort names = subst AreShort (sym (names_are n low)) (all_short 1 n (omega arith)) in
    let long : length (text_of (feed_row row)) ≤ 1000 + 500 * 1 + 400 * (length (map Need names) + 0) = text_short row (record { number = one_short; says = needs_short names shorts }, tt) in
    let count : length (map Need names) ≡ length names = length-map names Need in
    let many : length names ≡ n + 3 = ap length (names_are n low) ∙ needed_length n in
    record {
      right = record { versions = (version_one (map Need names) (needs_right names), tt); ids = one_id (map Need names); lies = root_lies; written = root_fine n low (omega arith) };
      short = omega (arith, long, count, many);
      falls = one_falls (map Need names);
      few = omega arith;
    }

two_is_fine : (name : List ℕ) (others : List (List ℕ)) (pick : ℕ) → is_some (folder name) ≡ true → ArePlain others → AreShort others → length others ≤ 3 → IsFine (two_row name others pick)
two_is_fine name others pick lies plain shorts few =
    let row : Row = two_row name others pick in
    let xs : List Piece = bounds (codes "2..") others in
    let long : length (text_of (feed_row row)) ≤ 1000 + 500 * 2 + 400 * (length xs + (0 + 0)) =
    text_short row (record { number = two_short; says = bounds_short (codes "2..") others (omega arith) shorts }, (record { number = one_short; says = tt }, tt)) in
    let count : length xs ≡ length others = length-map others (Bound (codes "2..")) in
    record {
      right = record { versions = (version_two xs (bounds_right (codes "2..") others from_two), (version_one [] tt, tt)); ids = two_ids xs []; lies = lies; written = two_fine name others pick plain };
      short = omega (arith, long, count);
      falls = two_fall xs;
      few = omega arith;
    }

three_is_fine : (name : List ℕ) (others : List (List ℕ)) (pick : ℕ) → is_some (folder name) ≡ true → ArePlain others → AreShort others → length others ≤ 3 → IsFine (three_row name others pick)
three_is_fine name others pick lies plain shorts few =
    let row : Row = three_row name others pick in
    let xs : List Piece = bounds (codes "!3") others in
    let ys : List Piece = bounds (codes "!2") others in
    let long : length (text_of (feed_row row)) ≤ 1000 + 500 * 3 + 400 * (length xs + (length ys + (0 + 0))) =
    text_short row (record { number = three_short; says = bounds_short (codes "!3") others (omega arith) shorts }, (record { number = two_short; says = bounds_short (codes "!2") others (omega arith) shorts }, (record { number = one_short; says = tt }, tt))) in
    let count : length xs ≡ length others = length-map others (Bound (codes "!3")) in
    let again : length ys ≡ length others = length-map others (Bound (codes "!2")) in
    record {
      right = record {
        versions = (version_three xs (bounds_right (codes "!3") others not_three), (version_two ys (bounds_right (codes "!2") others not_two), (version_one [] tt, tt)));
        ids = three_ids xs ys [];
        lies = lies;
        written = three_fine name others pick plain;
      };
      short = omega (arith, long, count, again);
      falls = three_fall xs ys;
      few = omega arith;
    }

last_are_fine : AllByRecursion IsFine last_rows
last_are_fine =
    let one : length (codes "q") ≤ 20 = omega arith in
    let two : length (codes "r") ≤ 20 = omega arith in (
      three_is_fine (codes "p") (codes "q" ∷ codes "r" ∷ []) 0 p_lies refl (one, (two, tt)) (omega arith),
      (
        three_is_fine (codes "q") (codes "r" ∷ []) 1 q_lies refl (two, tt) (omega arith),
        (three_is_fine (codes "r") [] 2 r_lies refl tt (omega arith), tt),
      ),
    )

later_are_fine : (k m : ℕ) → k + m < 2 ^ 64 → AllByRecursion IsFine (map later_row (numbers k m) ++ last_rows)
later_are_fine k zero h = last_are_fine
later_are_fine k (suc m) h = (two_is_fine (numbered k) [] 0 (numbered_lies k (omega arith)) refl tt (omega arith), later_are_fine (k + 1) m (omega arith))

pub others_are_fine : (n : ℕ) → n ≤ 1000 → AllByRecursion IsFine (other_rows n)
others_are_fine n high =
    let one : length (codes "p") ≤ 20 = omega arith in
    let two : length (codes "q") ≤ 20 = omega arith in
    let three : length (codes "r") ≤ 20 = omega arith in
    (two_is_fine (numbered 1) p_q_r 1 (numbered_lies 1 (omega arith)) refl (one, (two, (three, tt))) (omega arith), later_are_fine 2 (n - 1) (omega arith))

-- How many they are.

later_length : (is : List ℕ) → length (map later_row is ++ last_rows) ≡ length is + 3
later_length is = length-append (map later_row is) last_rows ∙ ap (λ k. k + 3) (length-map is later_row)

pub others_length : (n : ℕ) → 1 ≤ n → length (other_rows n) ≡ n + 3
others_length n low =
    let a : length (map later_row (numbers 2 (n - 1)) ++ last_rows) ≡ length (numbers 2 (n - 1)) + 3 = later_length (numbers 2 (n - 1)) in
    let b : length (numbers 2 (n - 1)) ≡ n - 1 = numbers_length 2 (n - 1) in
    omega (arith, a, b)

-- What the others ask for: nothing.

abbrev pub WantsNone : Row → Type 0
WantsNone row = all_wants row.versions ≡ []

two_want : (name : List ℕ) (others : List (List ℕ)) (pick : ℕ) → WantsNone (two_row name others pick)
two_want name others pick = ap (λ v. v ++ []) (bounds_want (codes "2..") others)

three_want : (name : List ℕ) (others : List (List ℕ)) (pick : ℕ) → WantsNone (three_row name others pick)
three_want name others pick =
    ap (λ v. v ++ (all_wants (saying 2 (bounds (codes "!2") others) ∷ saying 1 [] ∷ []))) (bounds_want (codes "!3") others) ∙ ap (λ v. v ++ []) (bounds_want (codes "!2") others)

later_want : (is : List ℕ) → AllByRecursion WantsNone (map later_row is ++ last_rows)
later_want [] = (three_want (codes "p") (codes "q" ∷ codes "r" ∷ []) 0, (three_want (codes "q") (codes "r" ∷ []) 1, (three_want (codes "r") [] 2, tt)))
later_want (i ∷ is) = (two_want (numbered i) [] 0, later_want is)

pub others_want : (n : ℕ) → AllByRecursion WantsNone (other_rows n)
others_want n = (two_want (numbered 1) p_q_r 1, later_want (numbers 2 (n - 1)))

-- How much they say.

abbrev pub row_load : Row → ℕ
row_load row = total (λ (v : Version). 2 + 6 * length v.says) row.versions

later_load : (is : List ℕ) → total row_load (map later_row is ++ last_rows) ≡ 4 * length is + 54
later_load [] = omega arith
later_load (i ∷ is) =
    let e : total row_load (map later_row is ++ last_rows) ≡ 4 * length is + 54 = later_load is in
    omega (arith, e)

pub rows_load : (n : ℕ) → 1 ≤ n → n ≤ 1000 → total row_load (rows n) ≤ 20000
rows_load n low high =
    let a : total row_load (map later_row (numbers 2 (n - 1)) ++ last_rows) ≡ 4 * length (numbers 2 (n - 1)) + 54 = later_load (numbers 2 (n - 1)) in
    let b : length (numbers 2 (n - 1)) ≡ n - 1 = numbers_length 2 (n - 1) in
    let c : length (map Need (names_of (other_rows n))) ≡ length (names_of (other_rows n)) = length-map (names_of (other_rows n)) Need in
    let d : length (names_of (other_rows n)) ≡ n + 3 = ap length (names_are n low) ∙ needed_length n in
    omega (arith, a, b, c, d)

-- Their choices meet what they say.

-- one that is found behind others
found_behind : (xs ys : List Row) (j : ℕ) (y : Row) → slice_get ys j ≡ Some y → (k : ℕ) × (slice_get (xs ++ ys) k ≡ Some y)
found_behind [] ys j y e = (j, e)
found_behind (x ∷ xs) ys j y e = let f = found_behind xs ys j y e in (suc f.0, f.1)

find_last : (n j : ℕ) (row : Row) (v : Version) → slice_get last_rows j ≡ Some row → slice_get row.versions row.pick ≡ Some v → Finds (rows n) row.name v
find_last n j row v e c =
    let f = found_behind (map later_row (numbers 2 (n - 1))) last_rows j row e in
    record { place = suc (suc f.0); row = row; there = f.1; called = refl; chosen = c }

p_is_met : (n : ℕ) → IsMetRow (rows n) p_row
unfolding expression alternative words value
p_is_met n = record {
  version = saying 3 (bounds (codes "!3") (codes "q" ∷ codes "r" ∷ []));
  chosen = refl;
  met = ((saying 2 (bounds (codes "!2") (codes "r" ∷ [])), find_last n 1 q_row (saying 2 (bounds (codes "!2") (codes "r" ∷ []))) refl refl, refl), ((saying 1 [], find_last n 2 r_row (saying 1 []) refl refl, refl), tt));
}

q_is_met : (n : ℕ) → IsMetRow (rows n) q_row
unfolding expression alternative words value
q_is_met n = record {
  version = saying 2 (bounds (codes "!2") (codes "r" ∷ []));
  chosen = refl;
  met = ((saying 1 [], find_last n 2 r_row (saying 1 []) refl refl, refl), tt);
}

later_are_met : (n : ℕ) (is : List ℕ) → AllByRecursion (IsMetRow (rows n)) (map later_row is ++ last_rows)
later_are_met n [] = (p_is_met n, (q_is_met n, (record { version = saying 1 []; chosen = refl; met = tt }, tt)))
later_are_met n (i ∷ is) = (record { version = saying 2 []; chosen = refl; met = tt }, later_are_met n is)

pub others_are_met : (n : ℕ) → AllByRecursion (IsMetRow (rows n)) (other_rows n)
others_are_met n = (record { version = saying 1 []; chosen = refl; met = tt }, later_are_met n (numbers 2 (n - 1)))
