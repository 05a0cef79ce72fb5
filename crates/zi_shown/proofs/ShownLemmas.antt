-- What is shown: it is appended in pieces, it is of characters that may stand, and a text of such stays.
use Rattle.std.proofs.Common.{◌≡◌, ℕ, zero, suc, ◌+◌, ◌<◌, ◌/◌, ◌%◌, ◌==◌, Bool, true, false, ◌&&◌, List, [], ◌∷◌, ◌++◌, length, take, get_or, Option, Some, None, inl, inr, refl, sym, ap, subst, ◌∙◌, append_assoc, append-nil, lit<, arith}
use Rattle.std.specs.Prelude.{IsUtf8, nat_lt, codes, if◌then◌else◌}
use Rattle.std.specs.List.{list_all, flat_map}
use Rattle.std.specs.Fmt.{digits, digits_onto, digit_glyph}
use Rattle.std.specs.Io.KnownBytes.{Appends}
use Rattle.std.specs.Str.{chars, encode_utf8_all, all_scalars, is_utf8}
use Rattle.std.specs.Char.{encode_utf8}
use Rattle.std.proofs.Math.Nat.{mod-lt}
use Rattle.std.proofs.Math.Utf8.{scalar, low_scalar}
use Rattle.std.proofs.lemmas.Bool.{and_parts, cases_lt, cases_Bool}
use Rattle.std.proofs.lemmas.List.{take_more}
use Rattle.std.proofs.lemmas.List.Concat.{flat_map-append}
use Rattle.std.proofs.lemmas.Str.{encodes-append, encode_ascii, encodes-chars, chars-append, scalars-chars, chars-encodes, IsUtf8-from_is_utf8, is_utf8-from_IsUtf8}
use Rattle.zi_shown.specs.Shown.{may_stand, escape, visible, visible_byte, shown, shown_bytes}

-- ---- pieces

pub nothing_more : (a : Option (List ℕ)) → Appends a a []
nothing_more None = tt
nothing_more (Some x) = sym (append-nil x)

pub both : (a b c : Option (List ℕ)) (xs ys : List ℕ) → Appends a b xs → Appends b c ys → Appends a c (xs ++ ys)
both None b c xs ys p q = tt
both (Some x) None c xs ys p q = absurd p
both (Some x) (Some y) None xs ys p q = absurd q
both (Some x) (Some y) (Some z) xs ys p q = q ∙ ap (λ l. l ++ ys) p ∙ append_assoc x xs ys

-- one item more
one_more : {X : Type 0} (f : X → List ℕ) (xs : List X) (x : X) → flat_map f (xs ++ x ∷ []) ≡ flat_map f xs ++ f x
one_more f xs x = flat_map-append f xs (x ∷ []) ∙ ap (λ l. flat_map f xs ++ l) (append-nil (f x))

pub grown_index : (a b c : Option (List ℕ)) (xs : List ℕ) (i : ℕ) → i < length xs → Appends a b (flat_map visible_byte (take i xs)) → Appends b c (visible_byte (get_or xs i 0))
    → Appends a c (flat_map visible_byte (take (i + 1) xs))
grown_index a b c xs i lt so_far more =
    let all : flat_map visible_byte (take (i + 1) xs) ≡ flat_map visible_byte (take i xs) ++ visible_byte (get_or xs i 0) =
    ap (flat_map visible_byte) (take_more xs i 0 lt) ∙ one_more visible_byte (take i xs) (get_or xs i 0) in
    subst (Appends a c) (sym all) (both a b c (flat_map visible_byte (take i xs)) (visible_byte (get_or xs i 0)) so_far more)

pub grown : (a b c : Option (List ℕ)) (cs : List ℕ) (x : ℕ) → Appends a b (encode_utf8_all (flat_map visible cs)) → Appends b c (encode_utf8_all (visible x))
    → Appends a c (encode_utf8_all (flat_map visible (cs ++ x ∷ [])))
grown a b c cs x so_far more =
    let all : encode_utf8_all (flat_map visible (cs ++ x ∷ [])) ≡ encode_utf8_all (flat_map visible cs) ++ encode_utf8_all (visible x) =
    ap encode_utf8_all (one_more visible cs x) ∙ encodes-append (flat_map visible cs) (visible x) in
    subst (Appends a c) (sym all) (both a b c (encode_utf8_all (flat_map visible cs)) (encode_utf8_all (visible x)) so_far more)

-- ---- escapes

-- ASCII that may stand
abbrev fine : ℕ → Bool
fine x = nat_lt x 128 && may_stand x

abbrev glyphs_fine : ℕ → Bool
glyphs_fine zero = true
glyphs_fine (suc n) = fine (digit_glyph false n) && glyphs_fine n

glyphs_fine-at : (n k : ℕ) → glyphs_fine n ≡ true → k < n → fine (digit_glyph false k) ≡ true
glyphs_fine-at zero k h lt = absurd (omega arith)
glyphs_fine-at (suc n) k h lt =
    let parts = and_parts (fine (digit_glyph false n)) (glyphs_fine n) h in
    elim (cases_lt k n) [
      | inl below ↦ glyphs_fine-at n k parts.1 below
      | inr top ↦
          let e : k ≡ n = omega arith in
          rw e parts.0
    ]

tested : glyphs_fine 16 ≡ true
unfolding may_stand
tested = refl

pick : (p : ℕ → Bool) (b : Bool) (x y : List ℕ) → list_all p x ≡ true → list_all p y ≡ true → list_all p (if b then x else y) ≡ true
pick p true x y hx hy = hx
pick p false x y hx hy = hy

also : (a b : Bool) → a ≡ true → b ≡ true → (a && b) ≡ true
also true true p q = refl
also true false p q = q
also false b p q = absurd (cc)

digits_fine : (k n : ℕ) (acc : List ℕ) → list_all fine acc ≡ true → list_all fine (digits_onto k 16 false n acc) ≡ true
digits_fine zero n acc h = h
digits_fine (suc k) n acc h =
    let glyph : fine (digit_glyph false (n % 16)) ≡ true = glyphs_fine-at 16 (n % 16) tested (mod-lt n (lit< tt)) in
    let more : list_all fine (digit_glyph false (n % 16) ∷ acc) ≡ true = also (fine (digit_glyph false (n % 16))) (list_all fine acc) glyph h in
    pick fine (n / 16 == 0) (digit_glyph false (n % 16) ∷ acc) (digits_onto k 16 false (n / 16) (digit_glyph false (n % 16) ∷ acc)) more
    (digits_fine k (n / 16) (digit_glyph false (n % 16) ∷ acc) more)

all_of_both : (p : ℕ → Bool) (xs ys : List ℕ) → list_all p xs ≡ true → list_all p ys ≡ true → list_all p (xs ++ ys) ≡ true
all_of_both p [] ys hx hy = hy
all_of_both p (x ∷ xs) ys hx hy =
    let parts = and_parts (p x) (list_all p xs) hx in
    also (p x) (list_all p (xs ++ ys)) parts.0 (all_of_both p xs ys parts.1 hy)

opens : list_all fine (codes "\\u{") ≡ true
unfolding may_stand
opens = refl

closes : list_all fine (codes "}") ≡ true
unfolding may_stand
closes = refl

number_fine : (c : ℕ) → list_all fine (digits 16 false c) ≡ true
unfolding digits
number_fine c = digits_fine 64 c [] refl

escape_fine : (c : ℕ) → list_all fine (escape c) ≡ true
escape_fine c =
    all_of_both fine (codes "\\u{") (digits 16 false c ++ codes "}") opens (all_of_both fine (digits 16 false c) (codes "}") (number_fine c) closes)

encodes_fine : (xs : List ℕ) → list_all fine xs ≡ true → encode_utf8_all xs ≡ xs
encodes_fine [] h = refl
encodes_fine (x ∷ xs) h =
    let parts = and_parts (fine x) (list_all fine xs) h in
    let low = and_parts (nat_lt x 128) (may_stand x) parts.0 in
    let small : x < 128 = grind (arith, low) in
    ap (λ l. l ++ encode_utf8_all xs) (encode_ascii x small) ∙ ap (λ l. x ∷ l) (encodes_fine xs parts.1)

visible-not : (c : ℕ) → may_stand c ≡ false → visible c ≡ escape c
visible-not c e = ap (λ (b : Bool). if b then c ∷ [] else escape c) e

visible-may : (c : ℕ) → may_stand c ≡ true → visible c ≡ c ∷ []
visible-may c e = ap (λ (b : Bool). if b then c ∷ [] else escape c) e

-- the bytes of an escape, and of a character that stands
pub escaped : (c : ℕ) → may_stand c ≡ false → encode_utf8_all (visible c) ≡ codes "\\u{" ++ (digits 16 false c ++ codes "}")
escaped c e = ap encode_utf8_all (visible-not c e) ∙ encodes_fine (escape c) (escape_fine c)

pub stands : (c : ℕ) → may_stand c ≡ true → encode_utf8_all (visible c) ≡ encode_utf8 c
stands c e = ap encode_utf8_all (visible-may c e) ∙ append-nil (encode_utf8 c)

-- ---- texts

all_visible : (cs : List ℕ) → list_all may_stand cs ≡ true → flat_map visible cs ≡ cs
all_visible [] h = refl
all_visible (c ∷ cs) h =
    let parts = and_parts (may_stand c) (list_all may_stand cs) h in
    ap (λ l. l ++ flat_map visible cs) (visible-may c parts.0) ∙ ap (λ l. c ∷ l) (all_visible cs parts.1)

pub as_it_is : (text : List ℕ) → IsUtf8 text → list_all may_stand (chars text) ≡ true → shown text ≡ text
unfolding shown
as_it_is text utf8 h = ap encode_utf8_all (all_visible (chars text) h) ∙ encodes-chars text utf8

-- a text behind another
pub shown_both : (xs ys : List ℕ) → IsUtf8 xs → shown (xs ++ ys) ≡ shown xs ++ shown ys
unfolding shown
shown_both xs ys utf8 =
    ap (λ cs. encode_utf8_all (flat_map visible cs)) (chars-append xs ys utf8) ∙ ap encode_utf8_all (flat_map-append visible (chars xs) (chars ys))
    ∙ encodes-append (flat_map visible (chars xs)) (flat_map visible (chars ys))

pub bytes_of_text : (bytes : List ℕ) → IsUtf8 bytes → shown_bytes bytes ≡ shown bytes
unfolding shown_bytes
bytes_of_text bytes utf8 = ap (λ (b : Bool). if b then shown bytes else flat_map visible_byte bytes) (is_utf8-from_IsUtf8 bytes utf8)

-- bytes that are a text, and such as are none
pub is_text : (bytes : List ℕ) → IsUtf8 bytes → is_utf8 bytes ≡ true
is_text bytes utf8 = is_utf8-from_IsUtf8 bytes utf8

pub no_text : (bytes : List ℕ) → ¬ (IsUtf8 bytes) → is_utf8 bytes ≡ false
no_text bytes h = elim (cases_Bool (is_utf8 bytes)) [ inl is ↦ absurd (h (IsUtf8-from_is_utf8 bytes is)) | inr other ↦ other ]

fine_stands : (xs : List ℕ) → list_all fine xs ≡ true → list_all may_stand xs ≡ true
fine_stands [] h = refl
fine_stands (x ∷ xs) h =
    let parts = and_parts (fine x) (list_all fine xs) h in
    let low = and_parts (nat_lt x 128) (may_stand x) parts.0 in
    also (may_stand x) (list_all may_stand xs) low.1 (fine_stands xs parts.1)

fine_scalars : (xs : List ℕ) → list_all fine xs ≡ true → all_scalars xs ≡ true
fine_scalars [] h = refl
fine_scalars (x ∷ xs) h =
    let parts = and_parts (fine x) (list_all fine xs) h in
    let low = and_parts (nat_lt x 128) (may_stand x) parts.0 in
    let small : x < 55296 = grind (arith, low) in
    also (scalar x) (all_scalars xs) (low_scalar x small) (fine_scalars xs parts.1)

scalars_both : (xs ys : List ℕ) → all_scalars xs ≡ true → all_scalars ys ≡ true → all_scalars (xs ++ ys) ≡ true
scalars_both [] ys hx hy = hy
scalars_both (x ∷ xs) ys hx hy =
    let parts = and_parts (scalar x) (all_scalars xs) hx in
    also (scalar x) (all_scalars (xs ++ ys)) parts.0 (scalars_both xs ys parts.1 hy)

-- what shows a character may stand
all_stand : (cs : List ℕ) → list_all may_stand (flat_map visible cs) ≡ true
all_stand [] = refl
all_stand (c ∷ cs) = elim (cases_Bool (may_stand c)) [
  | inl may ↦
      all_of_both may_stand (visible c) (flat_map visible cs)
      (ap (list_all may_stand) (visible-may c may) ∙ also (may_stand c) true may refl) (all_stand cs)
  | inr other ↦
      all_of_both may_stand (visible c) (flat_map visible cs)
      (ap (list_all may_stand) (visible-not c other) ∙ fine_stands (escape c) (escape_fine c)) (all_stand cs)
]

all_spelled : (cs : List ℕ) → all_scalars cs ≡ true → all_scalars (flat_map visible cs) ≡ true
all_spelled [] h = refl
all_spelled (c ∷ cs) h = elim (cases_Bool (may_stand c)) [
  | inl may ↦
      let parts = and_parts (scalar c) (all_scalars cs) h in
      scalars_both (visible c) (flat_map visible cs) (ap all_scalars (visible-may c may) ∙ also (scalar c) true parts.0 refl) (all_spelled cs parts.1)
  | inr other ↦
      let parts = and_parts (scalar c) (all_scalars cs) h in
      scalars_both (visible c) (flat_map visible cs) (ap all_scalars (visible-not c other) ∙ fine_scalars (escape c) (escape_fine c)) (all_spelled cs parts.1)
]

pub nothing_raw : (text : List ℕ) → IsUtf8 text → list_all may_stand (chars (shown text)) ≡ true
unfolding shown
nothing_raw text utf8 =
    ap (list_all may_stand) (chars-encodes (flat_map visible (chars text)) (all_spelled (chars text) (scalars-chars text utf8))) ∙ all_stand (chars text)
