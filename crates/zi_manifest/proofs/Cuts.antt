-- Words and lines, each of which ends at its first separator.
use Rattle.std.proofs.Common.{◌≡◌, ◌<◌, ◌+◌, ◌%◌, ◌^◌, ℕ, suc, true, false, List, [], ◌∷◌, ◌++◌, refl, sym, ◌∙◌, ap, arith}
use Rattle.std.specs.Prelude.{nat_eq, ℤ, pos, negsuc, decimal}
use Rattle.std.specs.Fmt.{signed_decimal}
use Rattle.std.specs.List.{list_all}
use Rattle.std.proofs.lemmas.Fmt.{decimal_by_steps}
use Rattle.std.proofs.lemmas.Bool.Decides.{nat_tests}
use Rattle.std.proofs.lemmas.Bool.{and_parts, or_parts}
use Rattle.zi_digest.specs.declared.Algorithm.{Algorithm}
use Rattle.zi_tree.specs.Order.{has_byte}
use Rattle.zi_manifest.specs.Listing.{IsHash, IsSigned64, is_lower_digit}
use Rattle.zi_manifest.proofs.Accepted.{has_append}

test_same : (c : ℕ) → nat_eq c c ≡ true
test_same c = grind (arith, nat_tests)

test_other : (x c : ℕ) → (x ≡ c → ⊥) → nat_eq x c ≡ false
test_other x c h = grind (arith, nat_tests)

test_true : (x c : ℕ) → nat_eq x c ≡ true → x ≡ c
test_true x c h = grind (arith, nat_tests)

-- it is in a text that has it in the middle
pub has_middle : (c : ℕ) (w r : List ℕ) → has_byte c (w ++ c ∷ r) ≡ false → ⊥
has_middle c [] r h = absurd (cc (sym (test_same c) ∙ (or_parts (nat_eq c c) (has_byte c r) h).0))
has_middle c (x ∷ w) r h = has_middle c w r (or_parts (nat_eq x c) (has_byte c (w ++ c ∷ r)) h).1

-- a text is cut at the first separator in one way
pub cut_once : (c : ℕ) (w v r s : List ℕ) → has_byte c w ≡ false → has_byte c v ≡ false → w ++ c ∷ r ≡ v ++ c ∷ s → (w ≡ v) × (r ≡ s)
cut_once c [] [] r s h k e = (refl, cc e)
cut_once c [] (y ∷ v) r s h k e = let f : c ≡ y = cc e in absurd (cc (sym (test_same c) ∙ ap (λ z. nat_eq z c) f ∙ (or_parts (nat_eq y c) (has_byte c v) k).0))
cut_once c (x ∷ w) [] r s h k e = let f : x ≡ c = cc e in absurd (cc (sym (test_same c) ∙ ap (λ z. nat_eq z c) (sym f) ∙ (or_parts (nat_eq x c) (has_byte c w) h).0))
cut_once c (x ∷ w) (y ∷ v) r s h k e =
    let p = cut_once c w v r s (or_parts (nat_eq x c) (has_byte c w) h).1 (or_parts (nat_eq y c) (has_byte c v) k).1 (cc e) in
    let f : x ≡ y = cc e in
    (ap (λ z. z ∷ w) f ∙ ap (λ z. y ∷ z) p.0, p.1)

-- and at the last one
pub cut_last_once : (c : ℕ) (w v r s : List ℕ) → has_byte c r ≡ false → has_byte c s ≡ false → w ++ c ∷ r ≡ v ++ c ∷ s → (w ≡ v) × (r ≡ s)
cut_last_once c [] [] r s h k e = (refl, cc e)
cut_last_once c [] (y ∷ v) r s h k e = let f : r ≡ v ++ c ∷ s = cc e in absurd (has_middle c v s (sym (ap (has_byte c) f) ∙ h))
cut_last_once c (x ∷ w) [] r s h k e = let f : w ++ c ∷ r ≡ s = cc e in absurd (has_middle c w r (ap (has_byte c) f ∙ k))
cut_last_once c (x ∷ w) (y ∷ v) r s h k e =
    let p = cut_last_once c w v r s h k (cc e) in
    let f : x ≡ y = cc e in
    (ap (λ z. z ∷ w) f ∙ ap (λ z. y ∷ z) p.0, p.1)

-- no digit is a separator
pub decimal_has : (c n : ℕ) → c < 45 → n < 2 ^ 64 → has_byte c (decimal n) ≡ false
decimal_has c n low h = decimal_by_steps (λ m ds. has_byte c ds ≡ false) (λ m l. one m) (λ m ds l k. has_append c ds ((48 + m % 10) ∷ []) k (one (m % 10))) n h
  where
    one : (m : ℕ) → has_byte c ((48 + m) ∷ []) ≡ false
    one m = rw (test_other (48 + m) c (λ e. absurd (omega arith))) refl

pub signed_has : (c : ℕ) (z : ℤ) → c < 45 → IsSigned64 z → has_byte c (signed_decimal z) ≡ false
signed_has c (pos n) low h = decimal_has c n low (omega arith)
signed_has c (negsuc n) low h = rw (test_other 45 c (λ e. absurd (omega arith))) (decimal_has c (suc n) low (omega arith))

digit_has : (c d : ℕ) → c < 45 → is_lower_digit d ≡ true → nat_eq d c ≡ false
digit_has c d low h = grind (arith, nat_tests)

pub hash_has : (c : ℕ) (a : Algorithm) (h : List ℕ) → c < 45 → IsHash a h → has_byte c h ≡ false
hash_has c a h low g = all_has h g.1
  where
    all_has : (h : List ℕ) → list_all is_lower_digit h ≡ true → has_byte c h ≡ false
    all_has [] k = refl
    all_has (d ∷ ds) k = let p = and_parts (is_lower_digit d) (list_all is_lower_digit ds) k in rw (digit_has c d low p.0) (all_has ds p.1)
