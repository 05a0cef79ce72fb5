-- The digits of digests are ASCII.
use Rattle.std.specs.Prelude.{◌/◌, ◌%◌, slice_index}
use Rattle.std.proofs.Common.{◌≡◌, ℕ, zero, suc, ◌*◌, ◌<◌, true, List, [], ◌∷◌, length, map, refl, arith}
use Rattle.std.specs.List.{list_all}
use Rattle.std.specs.Int.Digits.{number_from_digits}
use Rattle.std.proofs.Math.Nat.{mod-lt}
use Rattle.std.proofs.lemmas.Bool.{and_from, and_parts}
use Rattle.hex.specs.Hex.{lower_digits, encode_with, encode_lower, IsBytes}
use Rattle.zi_digest.specs.Name.{base32_alphabet, base32_letter, last_digits, base32}
use Rattle.zi_doc_laws.specs.Trees.{IsCarried}
use Rattle.zi_sels_laws.proofs.LikeLaws.{Each, each_append}
use Rattle.zi_written_laws.proofs.TextLaws.{is_shown, shown_carried}

-- a place in a table of ASCII
table_at : (t : List ℕ) (k : ℕ) → list_all is_shown t ≡ true → k < length t → is_shown (slice_index t k) ≡ true
table_at [] k h lt = absurd (omega arith)
table_at (c ∷ t) zero h lt = (and_parts (is_shown c) (list_all is_shown t) h).0
table_at (c ∷ t) (suc k) h lt = table_at t k (and_parts (is_shown c) (list_all is_shown t) h).1 (omega arith)

high_half : (b : ℕ) → b < 256 → b / 16 < 16
high_half b h = omega arith

hex_shown : (bytes : List ℕ) → IsBytes bytes → list_all is_shown (encode_lower bytes) ≡ true
unfolding encode_with
hex_shown [] h = refl
hex_shown (b ∷ bytes) h =
    let high : b / 16 < 16 = high_half b (h 0) in
    let low : b % 16 < 16 = mod-lt b (omega arith) in
    and_from (is_shown (slice_index lower_digits (b / 16))) _ (table_at lower_digits (b / 16) refl high)
    (and_from (is_shown (slice_index lower_digits (b % 16))) _ (table_at lower_digits (b % 16) refl low) (hex_shown bytes (λ i. h (suc i))))

pub hex_carried : (bytes : List ℕ) → IsBytes bytes → IsCarried (encode_lower bytes)
hex_carried bytes h = shown_carried (encode_lower bytes) (hex_shown bytes h)

all_below : (count n : ℕ) → Each (λ v. v < 32) (last_digits 32 count n)
unfolding last_digits
all_below zero n = tt
all_below (suc count) n = each_append (λ v. v < 32) (last_digits 32 count (n / 32)) ((n % 32) ∷ []) (all_below count (n / 32)) (mod-lt n (omega arith), tt)

letters_shown : (vs : List ℕ) → Each (λ v. v < 32) vs → list_all is_shown (map base32_letter vs) ≡ true
letters_shown [] h = refl
letters_shown (v ∷ vs) h = and_from (is_shown (base32_letter v)) (list_all is_shown (map base32_letter vs)) (table_at base32_alphabet v refl h.0) (letters_shown vs h.1)

pub base32_carried : (bytes : List ℕ) → IsCarried (base32 bytes)
unfolding base32
base32_carried bytes =
    let vs : List ℕ = last_digits 32 52 (number_from_digits 256 bytes * 16) in
    shown_carried (map base32_letter vs) (letters_shown vs (all_below 52 (number_from_digits 256 bytes * 16)))
