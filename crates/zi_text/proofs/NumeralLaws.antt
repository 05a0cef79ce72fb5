-- Numbers read digit by digit.
use Rattle.std.proofs.Common.{◌≡◌, ℕ, suc, ◌+◌, ◌-◌, ◌*◌, ◌^◌, ◌<◌, ◌≤◌, nat_lt, Bool, true, false, ◌&&◌, List, [], ◌∷◌, Option, Some, None, length, drop, get_or, refl, sym, ap, ◌∙◌, arith}
use Rattle.std.specs.Prelude.{if◌then◌else◌, SomeIff}
use Rattle.std.specs.Char.{is_ascii_digit}
use Rattle.std.specs.List.{list_all}
use Rattle.std.proofs.lemmas.Bool.{le-ltb, lt-ltb}
use Rattle.std.proofs.lemmas.List.{drop_all}
use Rattle.zi_text.specs.Numeral.{number_from}
use Rattle.std.proofs.Math.Seq.{drop-cons}

-- what is left at a turn
digit_turn : (text : List ℕ) (i d : ℕ) → i < length text → d ≡ get_or text i 0 → drop i text ≡ d ∷ drop (i + 1) text
digit_turn text i d h is =
    let n : suc i ≡ i + 1 = omega arith in
    drop-cons text i 0 h ∙ (ap (λ y. y ∷ drop (suc i) text) (sym is) ∙ ap (λ j. d ∷ drop j text) n)

-- a number only grows
number_least : (n : ℕ) (ds : List ℕ) → n ≤ number_from n ds
number_least n [] = omega arith
number_least n (d ∷ ds) = let h = number_least (10 * n + (d - 48)) ds in omega arith

-- the number where all are digits and it is below 2^64
abbrev pub in_range : Bool → ℕ → Option ℕ
in_range digits n = if digits && nat_lt n (2 ^ 64) then Some n else None

-- what was read up to a place, and what is left
pub record ReadTo (text : List ℕ) (i number : ℕ) : Type 0 where
  pub digits : list_all is_ascii_digit (drop i text) ≡ list_all is_ascii_digit text
  pub value : number_from number (drop i text) ≡ number_from 0 text

none_great : (b : Bool) (n : ℕ) → 2 ^ 64 ≤ n → None ≡ in_range b n
none_great true n h = ap (λ t. if t then Some n else None) (sym (le-ltb n (2 ^ 64) h))
none_great false n h = refl

-- the number gets too great
pub none_fits : (text : List ℕ) (i number d : ℕ) → i < length text → d ≡ get_or text i 0 → 2 ^ 64 ≤ 10 * number + (d - 48) → ReadTo text i number
    → None ≡ in_range (list_all is_ascii_digit text) (number_from 0 text)
none_fits text i number d h at great r =
    let least = number_least (10 * number + (d - 48)) (drop (i + 1) text) in
    let same : number_from (10 * number + (d - 48)) (drop (i + 1) text) ≡ number_from 0 text = sym (ap (number_from number) (digit_turn text i d h at)) ∙ r.value in
    none_great (list_all is_ascii_digit text) (number_from 0 text) (omega arith)

-- a product and a sum that don't fit
pub product_great : (r : Option ℕ) (number d : ℕ) → SomeIff r (number * 10 < 2 ^ 64) (number * 10) → r ≡ None → 2 ^ 64 ≤ 10 * number + (d - 48)
product_great None number d h e = omega (arith, h)
product_great (Some x) number d h e = absurd (cc)

pub sum_great : (number d tens more : ℕ) → tens ≡ number * 10 → more ≡ d - 48 → (tens + more < 2 ^ 64 → ⊥) → 2 ^ 64 ≤ 10 * number + (d - 48)
sum_great number d tens more t m h = omega (arith, h)

-- all are read
pub read_all : (text : List ℕ) (i number : ℕ) → length text ≤ i → number < 2 ^ 64 → ReadTo text i number
    → Some number ≡ in_range (list_all is_ascii_digit text) (number_from 0 text)
read_all text i number h small r =
    let all : list_all is_ascii_digit text ≡ true = sym r.digits ∙ ap (list_all is_ascii_digit) (drop_all i text h) in
    let value : number ≡ number_from 0 text = sym (ap (number_from number) (drop_all i text h)) ∙ r.value in
    sym (ap (λ b. if b then Some number else None) (lt-ltb number (2 ^ 64) small))
    ∙ (ap (λ b. in_range b number) (sym all) ∙ ap (in_range (list_all is_ascii_digit text)) value)
