-- Texts read by an index.
use Rattle.std.proofs.Common.{◌≡◌, ℕ, suc, zero, ◌+◌, ◌<◌, ◌≤◌, ◌==◌, ◌&&◌, Bool, true, false, List, [], ◌∷◌, ◌++◌, cond, length, take, drop, get_or, refl, sym, ap, ◌∙◌, subst, append_assoc, arith, drop-cons, add-one}
use Rattle.std.proofs.lemmas.List.{drop_all, append-nil}
use Rattle.std.proofs.lemmas.Bool.Decides.{nat_tests}
use Rattle.std.proofs.lemmas.Str.{encodes-append}
use Rattle.std.specs.Prelude.{encode_utf8, encode_utf8_all}
use Rattle.zi_xml.specs.Chars.{same_letters, small}
use Rattle.zi_xml.specs.Machine.{common}
use Rattle.std.proofs.Math.Utf8.{encode}
use Rattle.std.proofs.lemmas.Bool.{and_parts}
use Rattle.zi_xml.proofs.Fronts.{same_length}

pub encodes_push : (xs : List ℕ) (x : ℕ) → encode_utf8_all (xs ++ x ∷ []) ≡ encode_utf8_all xs ++ encode_utf8 x
encodes_push xs x = encodes-append xs (x ∷ []) ∙ ap (λ v. encode_utf8_all xs ++ v) (append-nil (encode_utf8 x))

pub other_length : (xs ys : List ℕ) → (length xs ≡ length ys → ⊥) → false ≡ same_letters xs ys
other_length xs ys h = cases (same_letters xs ys) refl
  where
    cases : (b : Bool) → same_letters xs ys ≡ b → false ≡ b
    cases true e = absurd (h (same_length xs ys e))
    cases false e = refl

pub letters_step : (a b : List ℕ) (i : ℕ) → i < length a → i < length b
    → same_letters (drop i a) (drop i b) ≡ (small (get_or a i 0) == small (get_or b i 0) && same_letters (drop (suc i) a) (drop (suc i) b))
letters_step a b i h k = rw (drop-cons a i 0 h, drop-cons b i 0 k) refl

pub letters_on : (a b : List ℕ) (i : ℕ) → i < length a → i < length b → small (get_or a i 0) ≡ small (get_or b i 0)
    → same_letters (drop i a) (drop i b) ≡ same_letters (drop (i + 1) a) (drop (i + 1) b)
letters_on a b i h k e = letters_step a b i h k ∙ rw (add-one, same e) refl
  where
    same : small (get_or a i 0) ≡ small (get_or b i 0) → (small (get_or a i 0) == small (get_or b i 0)) ≡ true
    same e = grind (arith, nat_tests)

pub letters_off : (a b : List ℕ) (i : ℕ) → i < length a → i < length b → (small (get_or a i 0) ≡ small (get_or b i 0) → ⊥)
    → same_letters (drop i a) (drop i b) ≡ false
letters_off a b i h k e = letters_step a b i h k ∙ rw (other e) refl
  where
    other : (small (get_or a i 0) ≡ small (get_or b i 0) → ⊥) → (small (get_or a i 0) == small (get_or b i 0)) ≡ false
    other e = grind (arith, nat_tests)

pub letters_end : (a b : List ℕ) (i : ℕ) → length a ≤ i → length b ≤ i → same_letters (drop i a) (drop i b) ≡ true
letters_end a b i h k = rw (drop_all i a h, drop_all i b k) refl

pub common_step : (a b : List ℕ) (i : ℕ) → i < length a → i < length b
    → common (drop i a) (drop i b) ≡ cond (get_or a i 0 == get_or b i 0) (suc (common (drop (suc i) a) (drop (suc i) b))) 0
common_step a b i h k = rw (drop-cons a i 0 h, drop-cons b i 0 k) refl

pub common_on : (a b : List ℕ) (i : ℕ) → i < length a → i < length b → get_or a i 0 ≡ get_or b i 0
    → common (drop i a) (drop i b) ≡ suc (common (drop (i + 1) a) (drop (i + 1) b))
common_on a b i h k e = common_step a b i h k ∙ rw (add-one, same e) refl
  where
    same : get_or a i 0 ≡ get_or b i 0 → (get_or a i 0 == get_or b i 0) ≡ true
    same e = grind (arith, nat_tests)

pub common_off : (a b : List ℕ) (i : ℕ) → i < length a → i < length b → (get_or a i 0 ≡ get_or b i 0 → ⊥) → common (drop i a) (drop i b) ≡ 0
common_off a b i h k e = common_step a b i h k ∙ rw (other e) refl
  where
    other : (get_or a i 0 ≡ get_or b i 0 → ⊥) → (get_or a i 0 == get_or b i 0) ≡ false
    other e = grind (arith, nat_tests)

pub common_left : (a b : List ℕ) (i : ℕ) → length a ≤ i → common (drop i a) (drop i b) ≡ 0
common_left a b i h = rw (drop_all i a h) refl

pub common_right : (a b : List ℕ) (i : ℕ) → length b ≤ i → common (drop i a) (drop i b) ≡ 0
common_right a b i h = ap (common (drop i a)) (drop_all i b h) ∙ none (drop i a)
  where
    none : (xs : List ℕ) → common xs [] ≡ 0
    none [] = refl
    none (x ∷ xs) = refl

pub common_few : (xs ys : List ℕ) → common xs ys ≤ length xs
common_few [] ys = omega arith
common_few (x ∷ xs) [] = omega arith
common_few (x ∷ xs) (y ∷ ys) = cond_le (x == y) (common xs ys) (length xs) (common_few xs ys)
  where
    cond_le : (b : Bool) (n m : ℕ) → n ≤ m → cond b (suc n) 0 ≤ suc m
    cond_le true n m h = omega arith
    cond_le false n m h = omega arith

get_some : (xs : List ℕ) (i d e : ℕ) → i < length xs → get_or xs i d ≡ get_or xs i e
get_some [] i d e h = absurd (omega arith)
get_some (x ∷ xs) zero d e h = refl
get_some (x ∷ xs) (suc i) d e h = get_some xs i d e (omega arith)

take_more : (xs : List ℕ) (i : ℕ) → i < length xs → take (suc i) xs ≡ take i xs ++ get_or xs i 0 ∷ []
take_more [] i h = absurd (omega arith)
take_more (x ∷ xs) zero h = refl
take_more (x ∷ xs) (suc i) h = ap (λ v. x ∷ v) (take_more xs i (omega arith))

pub encodes_take : (xs : List ℕ) (i x : ℕ) → i < length xs → x ≡ get_or xs i x → encode_utf8_all (take (i + 1) xs) ≡ encode_utf8_all (take i xs) ++ encode_utf8 x
encodes_take xs i x h e =
    let same : get_or xs i 0 ≡ x = get_some xs i 0 x h ∙ sym e in
    ap encode_utf8_all (ap (λ n. take n xs) (add-one i) ∙ (take_more xs i h ∙ ap (λ v. take i xs ++ v ∷ []) same)) ∙ encodes_push (take i xs) x

pub bracket : encode_utf8 93 ≡ 93 ∷ []
unfolding encode
bracket = refl

pub line_feed : encode_utf8 10 ≡ 10 ∷ []
unfolding encode
line_feed = refl

pub space : encode_utf8 32 ≡ 32 ∷ []
unfolding encode
space = refl
