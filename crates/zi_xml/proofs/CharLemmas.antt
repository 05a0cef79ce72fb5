-- Kinds of characters that exclude each other, and small laws on lists and levels.
use Rattle.std.proofs.Common.{◌≡◌, ℕ, ◌+◌, ◌*◌, ◌==◌, true, false, List, [], ◌∷◌, ◌++◌, refl, ap, arith, eq-eqb, min}
use Rattle.std.proofs.lemmas.Bool.Decides.{nat_tests}
use Rattle.zi_xml.specs.Chars.{is_white, is_first, is_name, is_char, is_plain, is_quote, is_valued, is_digit, is_encoding}
use Rattle.zi_xml.specs.Meaning.{Level, tick, passed, carried}

pub passed_append : (a b : List ℕ) (l : Level) → passed (a ++ b) l ≡ passed b (passed a l)
passed_append [] b l = refl
passed_append (c ∷ a) b l = passed_append a b (tick c l)

pub same_self : (c : ℕ) → (c == c) ≡ true
same_self c = eq-eqb c c refl

pub is_code : (c k : ℕ) → (c == k) ≡ true → c ≡ k
is_code c k h = grind (arith, nat_tests)

pub white_not_name : (c : ℕ) → is_white c ≡ true → is_name c ≡ false
unfolding is_white is_name is_first is_digit
white_not_name c h = grind (arith, nat_tests)

pub white_not_first : (c : ℕ) → is_white c ≡ true → is_first c ≡ false
unfolding is_white is_first
white_not_first c h = grind (arith, nat_tests)

pub white_not_end : (c : ℕ) → is_white c ≡ true → (c == 62) ≡ false
unfolding is_white
white_not_end c h = grind (arith, nat_tests)

pub white_not_ask : (c : ℕ) → is_white c ≡ true → (c == 63) ≡ false
unfolding is_white
white_not_ask c h = grind (arith, nat_tests)

pub white_not_mark : (c : ℕ) → is_white c ≡ true → (c == 65279) ≡ false
unfolding is_white
white_not_mark c h = grind (arith, nat_tests)

pub white_char : (c : ℕ) → is_white c ≡ true → is_char c ≡ true
unfolding is_white is_char
white_char c h = grind (arith, nat_tests)

pub quote_not_white : (c : ℕ) → is_quote c ≡ true → is_white c ≡ false
unfolding is_quote is_white
quote_not_white c h = grind (arith, nat_tests)

pub first_not_white : (c : ℕ) → is_first c ≡ true → is_white c ≡ false
unfolding is_white is_first
first_not_white c h = grind (arith, nat_tests)

pub quote_ends : (q : ℕ) → is_valued q q ≡ false
unfolding is_plain
quote_ends q = grind (arith, nat_tests, same_self q)

pub quote_not_amp : (q : ℕ) → is_quote q ≡ true → (38 == q) ≡ false
unfolding is_quote
quote_not_amp q h = grind (arith, nat_tests)

pub quote_not_digit : (q : ℕ) → is_quote q ≡ true → is_digit q ≡ false
unfolding is_quote is_digit
quote_not_digit q h = grind (arith, nat_tests)

pub quote_not_encoding : (q : ℕ) → is_quote q ≡ true → is_encoding q ≡ false
unfolding is_quote is_encoding is_digit
quote_not_encoding q h = grind (arith, nat_tests)

pub digit_not_quote : (c q : ℕ) → is_digit c ≡ true → is_quote q ≡ true → (c == q) ≡ false
unfolding is_quote is_digit
digit_not_quote c q h k = grind (arith, nat_tests)

pub encoding_not_quote : (c q : ℕ) → is_encoding c ≡ true → is_quote q ≡ true → (c == q) ≡ false
unfolding is_quote is_encoding is_digit
encoding_not_quote c q h k = grind (arith, nat_tests)

pub first_name : (c : ℕ) → is_first c ≡ true → is_name c ≡ true
unfolding is_name
first_name c h = grind (arith, nat_tests)

pub first_char : (c : ℕ) → is_first c ≡ true → is_char c ≡ true
unfolding is_first is_char
first_char c h = grind (arith, nat_tests)

pub name_char : (c : ℕ) → is_name c ≡ true → is_char c ≡ true
unfolding is_name is_first is_digit is_char
name_char c h = grind (arith, nat_tests)

-- a number held below 0x110000
abbrev pub held : ℕ → ℕ
held n = min n 1114112

pub carried_held : (n : ℕ) → carried (held n) ≡ carried n
unfolding carried is_char
carried_held n = grind (arith, nat_tests)

pub ten_held : (n d : ℕ) → min (held n * 10 + d) 1114112 ≡ held (n * 10 + d)
ten_held n d = omega arith

pub sixteen_held : (n d : ℕ) → min (held n * 16 + d) 1114112 ≡ held (n * 16 + d)
sixteen_held n d = omega arith
