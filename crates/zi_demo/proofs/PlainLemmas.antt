-- Plain texts can be carried; the names of the demonstration are plain.
use Rattle.std.proofs.Common.{◌≡◌, ℕ, zero, suc, ◌+◌, ◌^◌, ◌<◌, Bool, true, false, ◌||◌, List, [], ◌∷◌, ◌++◌, map, refl, ap, ◌∙◌, arith}
use Rattle.std.specs.Prelude.{codes, decimal}
use Rattle.std.specs.List.{list_all}
use Rattle.std.specs.Char.{is_ascii_digit}
use Rattle.std.specs.Str.{IsAscii, is_utf8, chars, all_ascii_digits}
use Rattle.std.proofs.lemmas.Bool.Decides.{nat_tests}
use Rattle.std.proofs.lemmas.Fmt.{digits_decimal}
use Rattle.std.proofs.lemmas.Str.{IsUtf8-from_ascii, is_utf8-from_IsUtf8, chars-IsAscii}
use Rattle.std.proofs.lemmas.Str.Ascii.{IsAscii-nil}
use Rattle.std.proofs.lemmas.Str.Parse.{numerals_by_value, tells_all_ascii_digits}
use Rattle.std.proofs.lemmas.Bool.{and_from, and_parts}
use Rattle.zi_xml.specs.Chars.{is_between, is_char}
use Rattle.zi_docout.specs.Amiss.{is_carried}
use Rattle.zi_demo.specs.Feeds.{address, numbers, numbered, p_q_r}
use Rattle.zi_demo.specs.Plain.{is_plain, are_plain, ArePlain}

small : (c : ℕ) → is_plain c ≡ true → c < 128
small c h = grind (arith, nat_tests)

either : (a b c d e f : Bool) → a ≡ true → a || b || c || d || e || f ≡ true
either true b c d e f h = refl
either false b c d e f h = cc

wider : (c : ℕ) → is_plain c ≡ true → is_between 32 55295 c ≡ true
wider c h = grind (arith, nat_tests)

is_one : (c : ℕ) → is_plain c ≡ true → is_char c ≡ true
unfolding is_char
is_one c h = either (is_between 32 55295 c) _ _ _ _ _ (wider c h)

ascii : (t : List ℕ) → are_plain t ≡ true → IsAscii t
ascii [] h i = IsAscii-nil i
ascii (c ∷ t) h zero = small c (and_parts (is_plain c) (are_plain t) h).0
ascii (c ∷ t) h (suc i) = ascii t (and_parts (is_plain c) (are_plain t) h).1 i

are_chars : (t : List ℕ) → are_plain t ≡ true → list_all is_char t ≡ true
are_chars [] h = refl
are_chars (c ∷ t) h =
    let k = and_parts (is_plain c) (are_plain t) h in
    and_from (is_char c) (list_all is_char t) (is_one c k.0) (are_chars t k.1)

pub carried : (t : List ℕ) → are_plain t ≡ true → is_carried t ≡ true
unfolding is_carried
carried t h =
    let a : IsAscii t = ascii t h in
    and_from (is_utf8 t) (list_all is_char (chars t)) (is_utf8-from_IsUtf8 t (IsUtf8-from_ascii t a)) (ap (list_all is_char) (chars-IsAscii t a) ∙ are_chars t h)

-- one text behind another
pub plain_behind : (s t : List ℕ) → are_plain s ≡ true → are_plain t ≡ true → are_plain (s ++ t) ≡ true
plain_behind [] t h k = k
plain_behind (c ∷ s) t h k =
    let x = and_parts (is_plain c) (are_plain s) h in
    and_from (is_plain c) (are_plain (s ++ t)) x.0 (plain_behind s t x.1 k)

pub plain_address : (name : List ℕ) → are_plain name ≡ true → are_plain (address name) ≡ true
plain_address name h = plain_behind (codes "/demo/") (name ++ codes ".xml") refl (plain_behind name (codes ".xml") h refl)

-- digits
digit : (c : ℕ) → is_ascii_digit c ≡ true → is_plain c ≡ true
digit c h = grind (arith, nat_tests)

digits : (t : List ℕ) → all_ascii_digits t ≡ true → are_plain t ≡ true
digits [] h = refl
digits (c ∷ t) h =
    let x = and_parts (is_ascii_digit c) (all_ascii_digits t) h in
    and_from (is_plain c) (are_plain t) (digit c x.0) (digits t x.1)

pub plain_decimal : (n : ℕ) → n < 2 ^ 64 → are_plain (decimal n) ≡ true
plain_decimal n h = digits (decimal n) (digits_decimal (numerals_by_value (λ t. all_ascii_digits t ≡ true) tells_all_ascii_digits) n h)

-- the names that the root needs
plain_numbered : (k m : ℕ) → k + m < 2 ^ 64 → ArePlain (map numbered (numbers k m) ++ p_q_r)
plain_numbered k zero h = refl
plain_numbered k (suc m) h =
    and_from (are_plain (numbered k)) (list_all are_plain (map numbered (numbers (k + 1) m) ++ p_q_r))
    (plain_behind (codes "a") (decimal k) refl (plain_decimal k (omega arith)))
    (plain_numbered (k + 1) m (omega arith))

pub plain_names : (n : ℕ) → n < 2 ^ 32 → ArePlain (map numbered (numbers 1 n) ++ p_q_r)
plain_names n h = plain_numbered 1 n (omega arith)
