-- The parse tree of a canonical text: it is written so, and its parts are of the right characters.
use Rattle.std.specs.Prelude.{encode_utf8_all, flat_map}
use Rattle.std.proofs.Common.{◌≡◌, ℕ, suc, zero, true, false, ◌&&◌, List, [], ◌∷◌, ◌++◌, map, refl, ap, ◌∙◌, arith, append_assoc}
use Rattle.std.specs.List.{list_any, list_all}
use Rattle.std.specs.Str.{chars}
use Rattle.std.proofs.lemmas.Str.{encodes-chars, scalars-chars}
use Rattle.std.proofs.lemmas.Bool.Decides.{nat_tests}
use Rattle.std.proofs.lemmas.Bool.{or_parts, and_parts}
use Rattle.zi_elements.specs.declared.element.Attr.{Attr}
use Rattle.zi_elements.specs.Forest.{Forest, none, words, child}
use Rattle.zi_xml.specs.Chars.{is_char, is_white, is_plain, is_letter, is_digit, is_first, is_name, is_quote}
use Rattle.zi_xml.specs.Syntax.{letter, Written, Content, stop, bit, void, pair, bits_text, written_text, all_text, end_tag, text, AllAre, IsName, IsWritten, AreWritten, is_said, brackets_after}
use Rattle.zi_docout.specs.Canonical.{words_text, value_text, attr_text, tag_text, end_text, indent, rest_text, lines_text}
use Rattle.zi_docout.specs.Amiss.{is_name_byte, is_plain_name, is_amiss_attr, is_amiss_text, texts, count, standing, is_amiss}
use Rattle.zi_docout.proofs.FineLemmas.{fine_attr, FineText, fine_text, Carried, parts}
use Rattle.zi_docout.proofs.BitLemmas.{value_bit, said, said_spelled, said_fits, value_bits_spelled, value_bits_valued, Spell, nothing, behind, along, is_ascii, ascii, Fits}

-- the spaces before an element that d elements stand around
abbrev pub spaces : ℕ → Content → Content
spaces zero k = k
spaces (suc d) k = bit (letter 32) (bit (letter 32) (spaces d k))

abbrev pub written : Attr → Written
written a = record { lead = 32; more = []; name = a.name; before = []; behind = []; quote = 34; value = map value_bit (chars a.value) }

-- an element with these attributes, whose lines are i, and then more
abbrev pub shaped : List ℕ → List Written → Forest → Content → Content → Content
shaped n ws none i k = void n ws [] k
shaped n ws (words t g) i k = pair n ws [] (said (chars t) stop) [] k
shaped n ws (child s m attrs f p g) i k = pair n ws [] (bit (letter 10) i) [] k

-- the elements among nodes, each on a line of its own, d elements standing around them, and then more
abbrev pub parsed : ℕ → Forest → Content → Content
parsed d none k = k
parsed d (words t f) k = parsed d f k
parsed d (child s n attrs f p g) k = spaces d (shaped n (map written attrs) f (parsed (suc d) f (spaces d stop)) (bit (letter 10) (parsed d g k)))

-- A plain name is ASCII, and a name of XML.

name_byte : (c : ℕ) → is_name_byte c ≡ true → (is_ascii c ≡ true) × (is_name c ≡ true)
unfolding is_name is_first is_digit
name_byte c h = (grind (arith, nat_tests), grind (arith, nat_tests))

letter_byte : (c : ℕ) → is_letter c ≡ true → (is_ascii c ≡ true) × (is_first c ≡ true)
unfolding is_first
letter_byte c h = (grind (arith, nat_tests), grind (arith, nat_tests))

name_bytes : (cs : List ℕ) → list_all is_name_byte cs ≡ true → (list_all is_ascii cs ≡ true) × AllAre is_name cs
name_bytes [] h = (refl, tt)
name_bytes (c ∷ cs) h =
    let x = and_parts _ _ h in
    let y = name_byte c x.0 in
    let z = name_bytes cs x.1 in
    (ap (λ b. b && list_all is_ascii cs) y.0 ∙ z.0, (y.1, z.1))

pub plain_name : (n : List ℕ) → is_plain_name n ≡ true → (list_all is_ascii n ≡ true) × IsName n
unfolding is_plain_name
plain_name [] h = (cc, cc)
plain_name (c ∷ cs) h =
    let x = and_parts _ _ h in
    let y = letter_byte c x.0 in
    let z = name_bytes cs x.1 in
    (ap (λ b. b && list_all is_ascii cs) y.0 ∙ z.0, (y.1, z.1))

pub name_spelled : (n : List ℕ) → is_plain_name n ≡ true → Spell n n
name_spelled n h = ascii n (plain_name n h).0

-- one ASCII character before more
pub one : (c : ℕ) (cs w : List ℕ) → is_ascii c ≡ true → Spell cs w → Spell (c ∷ cs) (c ∷ w)
one c cs w h x = behind (c ∷ []) cs (c ∷ []) w (ascii (c ∷ []) (ap (λ b. b && true) h)) x

-- What is written of attributes that can be written.

pub value_spelled : (v : List ℕ) → Carried v → Spell (bits_text (map value_bit (chars v))) (value_text v)
value_spelled v h = along _ _ _ (ap value_text (encodes-chars v h.utf8)) (value_bits_spelled (chars v) (scalars-chars v h.utf8))

pub attr_spelled : (a : Attr) → is_plain_name a.name ≡ true → Carried a.value → Spell (written_text (written a)) (attr_text a)
attr_spelled a n v =
    one 32 _ _ refl (behind a.name _ a.name _ (name_spelled a.name n) (one 61 _ _ refl (one 34 _ _ refl (behind _ _ _ _ (value_spelled a.value v) (ascii (34 ∷ []) refl)))))

pub attrs_spelled : (xs : List Attr) → list_any is_amiss_attr xs ≡ false → Spell (all_text (map written xs)) (flat_map attr_text xs)
attrs_spelled [] h = nothing
attrs_spelled (a ∷ xs) h = let x = or_parts _ _ h in let y = fine_attr a x.0 in behind _ _ _ _ (attr_spelled a y.name y.value) (attrs_spelled xs x.1)

pub attr_fits : (a : Attr) → is_plain_name a.name ≡ true → Carried a.value → IsWritten (written a)
unfolding is_white is_quote
attr_fits a n v = record {
  lead = refl;
  more = tt;
  name = (plain_name a.name n).1;
  before = tt;
  behind = tt;
  quote = refl;
  value = value_bits_valued (chars a.value) v.chars;
}

pub attrs_fit : (xs : List Attr) → list_any is_amiss_attr xs ≡ false → AreWritten (map written xs)
attrs_fit [] h = tt
attrs_fit (a ∷ xs) h = let x = or_parts _ _ h in let y = fine_attr a x.0 in (attr_fits a y.name y.value, attrs_fit xs x.1)

-- The layout.

pub spaces_spelled : (d : ℕ) (k : Content) (w : List ℕ) → Spell (text k) w → Spell (text (spaces d k)) (indent d ++ w)
spaces_spelled zero k w h = h
spaces_spelled (suc d) k w h = one 32 _ _ refl (one 32 _ _ refl (spaces_spelled d k w h))

space_said : (m : ℕ) → is_said m 32 ≡ true
unfolding is_plain is_char
space_said m = grind (arith, nat_tests)

line_said : (m : ℕ) → is_said m 10 ≡ true
unfolding is_plain is_char
line_said m = grind (arith, nat_tests)

pub line_fits : (k : Content) → Fits k → Fits (bit (letter 10) k)
line_fits k f m = (line_said m, f _)

pub spaces_fit : (d : ℕ) (k : Content) → Fits k → Fits (spaces d k)
spaces_fit zero k f = f
spaces_fit (suc d) k f = λ m. (space_said m, (space_said (brackets_after m (letter 32)), spaces_fit d k f (brackets_after (brackets_after m (letter 32)) (letter 32))))

-- One element.

regroup : (a b c w : List ℕ) → a ++ ((b ++ c) ++ w) ≡ (a ++ b) ++ (c ++ w)
regroup a b c w = simp append_assoc

-- an empty tag
void_spelled : (n : List ℕ) (ws : List Written) (a : List ℕ) (k : Content) (w : List ℕ) → Spell n n → Spell (all_text ws) a → Spell (text k) w
    → Spell (text (void n ws [] k)) ((60 ∷ (n ++ a)) ++ ((47 ∷ 62 ∷ []) ++ w))
void_spelled n ws a k w hn ha hk =
    one 60 _ _ refl (along _ _ _ (regroup n a (47 ∷ 62 ∷ []) w) (behind n _ n _ hn (behind _ _ _ _ (behind _ _ _ _ ha (ascii (47 ∷ 62 ∷ []) refl)) hk)))

end_spelled : (n : List ℕ) → Spell n n → Spell (end_tag n []) (end_text n)
end_spelled n h = one 60 _ _ refl (one 47 _ _ refl (behind n _ n _ h (ascii (62 ∷ []) refl)))

around_words : (n a i e w : List ℕ) → n ++ ((a ++ 62 ∷ []) ++ (i ++ (e ++ w))) ≡ (n ++ a) ++ (62 ∷ ((i ++ e) ++ w))
around_words n a i e w = simp append_assoc

-- a start tag, content and an end tag
pair_spelled : (n : List ℕ) (ws : List Written) (a : List ℕ) (i : Content) (v : List ℕ) (k : Content) (w : List ℕ) → Spell n n → Spell (all_text ws) a → Spell (text i) v → Spell (text k) w
    → Spell (text (pair n ws [] i [] k)) ((60 ∷ (n ++ a)) ++ (62 ∷ ((v ++ end_text n) ++ w)))
pair_spelled n ws a i v k w hn ha hi hk =
    one 60 _ _ refl (along _ _ _ (around_words n a v (end_text n) w)
    (behind n _ n _ hn (behind _ _ _ _ (behind _ _ _ _ ha (ascii (62 ∷ []) refl)) (behind _ _ _ _ hi (behind _ _ _ _ (end_spelled n hn) hk)))))

pub words_spelled : (t : List ℕ) → Carried t → Spell (text (said (chars t) stop)) (words_text t)
words_spelled t h =
    along _ _ _ (append_none (words_text (encode_utf8_all (chars t))) ∙ ap words_text (encodes-chars t h.utf8)) (said_spelled (chars t) stop [] (scalars-chars t h.utf8) nothing)
  where
    append_none : (xs : List ℕ) → xs ++ [] ≡ xs
    append_none [] = refl
    append_none (x ∷ xs) = ap (λ v. x ∷ v) (append_none xs)

-- the texts among children are fine
abbrev pub FineTexts : Forest → Type 0
FineTexts f = list_any (is_amiss_text (count f)) (texts f) ≡ false

pub first_text : (t : List ℕ) (f : Forest) → FineTexts (words t f) → FineText (suc (count f)) t
first_text t f h = fine_text _ t (or_parts _ _ h).0

inner_lines : (a d e w : List ℕ) → (10 ∷ (a ++ d)) ++ e ≡ 10 ∷ (a ++ (d ++ e))
inner_lines a d e w = ap (λ v. 10 ∷ v) (append_assoc a d e)

pub shaped_spelled : (d : ℕ) (n : List ℕ) (ws : List Written) (a : List ℕ) (f : Forest) (i : Content) (v : List ℕ) (k : Content) (w : List ℕ)
    → Spell n n → Spell (all_text ws) a → FineTexts f → Spell (text i) (v ++ indent d) → Spell (text k) w
    → Spell (text (shaped n ws f i k)) ((60 ∷ (n ++ a)) ++ (rest_text d n f v ++ w))
shaped_spelled d n ws a none i v k w hn ha hf hi hk = void_spelled n ws a k w hn ha hk
shaped_spelled d n ws a (words t g) i v k w hn ha hf hi hk = pair_spelled n ws a _ (words_text t) k w hn ha (words_spelled t (first_text t g hf).carried) hk
shaped_spelled d n ws a (child s m xs f p g) i v k w hn ha hf hi hk =
    along _ _ _ (ap (λ z. (60 ∷ (n ++ a)) ++ (62 ∷ (z ++ w))) (inner_lines v (indent d) (end_text n) w))
    (pair_spelled n ws a (bit (letter 10) i) (10 ∷ (v ++ indent d)) k w hn ha (one 10 _ _ refl hi) hk)

pub shaped_fits : (n : List ℕ) (ws : List Written) (f : Forest) (i k : Content) → IsName n → AreWritten ws → FineTexts f → Fits i → Fits k → Fits (shaped n ws f i k)
shaped_fits n ws none i k hn ha hf hi hk = λ m. (hn, (ha, (tt, hk 0)))
shaped_fits n ws (words t g) i k hn ha hf hi hk =
    λ m. (hn, (ha, (tt, (said_fits (chars t) stop (first_text t g hf).carried.chars (λ _. tt) 0, (tt, hk 0)))))
shaped_fits n ws (child s m xs f p g) i k hn ha hf hi hk = λ j. (hn, (ha, (tt, (line_fits i hi 0, (tt, hk 0)))))

-- Lines.

pub parsed_spelled : (d : ℕ) (f : Forest) (k : Content) (w : List ℕ) → list_any is_amiss (standing d f) ≡ false → Spell (text k) w → Spell (text (parsed d f k)) (lines_text d f ++ w)
parsed_spelled d none k w h x = x
parsed_spelled d (words t f) k w h x = parsed_spelled d f k w h x
parsed_spelled d (child s n xs f p g) k w h x =
    let q = parts d s n xs f p g h in
    let v : List ℕ = lines_text (suc d) f in
    along _ _ _ (layout (indent d) (tag_text n xs) (rest_text d n f v) (lines_text d g) w)
    (spaces_spelled d _ _
    (shaped_spelled d n (map written xs) (flat_map attr_text xs) f _ v _ _ (name_spelled n q.here.name) (attrs_spelled xs q.here.attrs) q.here.texts
    (parsed_spelled (suc d) f (spaces d stop) (indent d) q.inside (along _ _ _ (append_none (indent d)) (spaces_spelled d stop [] nothing)))
    (one 10 _ _ refl (parsed_spelled d g k w q.behind x))))
  where
    layout : (a b c e w : List ℕ) → a ++ (b ++ (c ++ (10 ∷ (e ++ w)))) ≡ (a ++ (b ++ (c ++ 10 ∷ e))) ++ w
    layout a b c e w = simp append_assoc

    append_none : (xs : List ℕ) → xs ++ [] ≡ xs
    append_none [] = refl
    append_none (x ∷ xs) = ap (λ v. x ∷ v) (append_none xs)

pub parsed_fits : (d : ℕ) (f : Forest) (k : Content) → list_any is_amiss (standing d f) ≡ false → Fits k → Fits (parsed d f k)
parsed_fits d none k h x = x
parsed_fits d (words t f) k h x = parsed_fits d f k h x
parsed_fits d (child s n xs f p g) k h x =
    let q = parts d s n xs f p g h in
    spaces_fit d _
    (shaped_fits n (map written xs) f _ _ (plain_name n q.here.name).1 (attrs_fit xs q.here.attrs) q.here.texts (parsed_fits (suc d) f (spaces d stop) q.inside (spaces_fit d stop (λ _. tt)))
    (line_fits _ (parsed_fits d g k q.behind x)))
