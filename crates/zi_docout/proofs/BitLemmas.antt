-- How characters are written, what is read of that, and what it means.
use Rattle.std.specs.Prelude.{codes, encode_utf8, encode_utf8_all, flat_map, if◌then◌else◌}
use Rattle.std.proofs.Common.{◌≡◌, ℕ, ◌<◌, ◌≤◌, Bool, true, false, not, ◌&&◌, ◌==◌, cond, ltb, List, [], ◌∷◌, ◌++◌, map, refl, sym, ap, ◌∙◌, subst, arith, append_assoc, append-nil}
use Rattle.std.specs.List.{list_all}
use Rattle.std.proofs.Math.Utf8.{encode, scalar, scalars, low_scalar}
use Rattle.std.proofs.lemmas.Str.{encodes-append}
use Rattle.std.proofs.lemmas.Grind.{flat_map-append}
use Rattle.std.proofs.lemmas.Bool.Decides.{nat_tests}
use Rattle.std.proofs.lemmas.Bool.{and_from, and_parts}
use Rattle.zi_xml.specs.Chars.{is_char, is_white, is_plain, is_valued, entity, is_first, is_digit, is_name, digit_value}
use Rattle.zi_names.specs.declared.attributes.Binding.{Binding}
use Rattle.zi_xml.specs.Syntax.{Bit, letter, entity_of, decimal, bit_text, bits_text, IsBit, AreBits, is_said, Content, bit, text, IsContentAfter, brackets_after}
use Rattle.zi_xml.specs.Meaning.{Level, heard, line_end, value_end, carried, bit_told, bit_passed, bits_passed, is_return, in_value, value_of, told}
use Rattle.zi_docout.specs.Canonical.{word_escaped, value_escaped, words_text, value_text}

-- a character of a text, and of a value
unfoldable pub word_bit : ℕ → Bit
word_bit c =
    if c == 38 then entity_of (codes "amp")
    else if c == 60 then entity_of (codes "lt")
    else if c == 62 then entity_of (codes "gt")
    else if c == 13 then decimal (codes "13")
    else letter c

unfoldable pub value_bit : ℕ → Bit
value_bit c =
    if c == 34 then entity_of (codes "quot")
    else if c == 9 then decimal (codes "9")
    else if c == 10 then decimal (codes "10")
    else word_bit c

same_code : (c k : ℕ) → (c == k) ≡ true → k ≡ c
same_code c k h = grind (arith, nat_tests)

-- one choice of a table
choose : (P : Bit → Type 0) (b : Bool) (x y : Bit) → (b ≡ true → P x) → (b ≡ false → P y) → P (if b then x else y)
choose P true x y f g = f refl
choose P false x y f g = g refl

-- A character that none of these is.
pub record Other (c : ℕ) : Type 0 where
  pub amp : (c == 38) ≡ false
  pub less : (c == 60) ≡ false
  pub more : (c == 62) ≡ false
  pub return : (c == 13) ≡ false

-- What holds of each escape of a text, and of each other character, holds of every character.
pub word_cases : (P : ℕ → Bit → Type 0) → P 38 (entity_of (codes "amp")) → P 60 (entity_of (codes "lt")) → P 62 (entity_of (codes "gt")) → P 13 (decimal (codes "13"))
    → (c : ℕ) → (Other c → P c (letter c)) → P c (word_bit c)
unfolding word_bit
word_cases P amp less more return c other =
    choose (P c) (c == 38) _ _ (λ e. subst (λ (v : ℕ). P v (entity_of (codes "amp"))) (same_code c 38 e) amp)
    (λ e1. choose (P c) (c == 60) _ _ (λ e. subst (λ (v : ℕ). P v (entity_of (codes "lt"))) (same_code c 60 e) less)
    (λ e2. choose (P c) (c == 62) _ _ (λ e. subst (λ (v : ℕ). P v (entity_of (codes "gt"))) (same_code c 62 e) more)
    (λ e3. choose (P c) (c == 13) _ _ (λ e. subst (λ (v : ℕ). P v (decimal (codes "13"))) (same_code c 13 e) return)
    (λ e4. other (record { amp = e1; less = e2; more = e3; return = e4 })))))

pub record OtherYet (c : ℕ) : Type 0 where
  pub quote : (c == 34) ≡ false
  pub tab : (c == 9) ≡ false
  pub line : (c == 10) ≡ false

pub value_cases : (P : ℕ → Bit → Type 0) → P 34 (entity_of (codes "quot")) → P 9 (decimal (codes "9")) → P 10 (decimal (codes "10"))
    → (c : ℕ) → (OtherYet c → P c (word_bit c)) → P c (value_bit c)
unfolding value_bit
value_cases P quote tab line c other =
    choose (P c) (c == 34) _ _ (λ e. subst (λ (v : ℕ). P v (entity_of (codes "quot"))) (same_code c 34 e) quote)
    (λ e1. choose (P c) (c == 9) _ _ (λ e. subst (λ (v : ℕ). P v (decimal (codes "9"))) (same_code c 9 e) tab)
    (λ e2. choose (P c) (c == 10) _ _ (λ e. subst (λ (v : ℕ). P v (decimal (codes "10"))) (same_code c 10 e) line)
    (λ e3. other (record { quote = e1; tab = e2; line = e3 }))))

-- The characters spell the bytes (RFC 3629).
pub record Spell (cs w : List ℕ) : Type 0 where
  pub text : encode_utf8_all cs ≡ w
  pub right : scalars cs ≡ true

scalars_append : (a b : List ℕ) → scalars a ≡ true → scalars b ≡ true → scalars (a ++ b) ≡ true
scalars_append [] b h k = k
scalars_append (c ∷ a) b h k = let x = and_parts _ _ h in and_from (scalar c) (scalars (a ++ b)) x.0 (scalars_append a b x.1 k)

pub nothing : Spell [] []
nothing = record { text = refl; right = refl }

pub behind : (a b v w : List ℕ) → Spell a v → Spell b w → Spell (a ++ b) (v ++ w)
behind a b v w x y = record {
  text = encodes-append a b ∙ (ap (λ z. z ++ encode_utf8_all b) x.text ∙ ap (λ z. v ++ z) y.text);
  right = scalars_append a b x.right y.right;
}

pub along : (cs v w : List ℕ) → v ≡ w → Spell cs v → Spell cs w
along cs v w e x = record { text = x.text ∙ e; right = x.right }

abbrev pub is_ascii : ℕ → Bool
is_ascii c = ltb c 128

ascii_encode : (c : ℕ) → is_ascii c ≡ true → (encode_utf8 c ≡ c ∷ []) × (scalar c ≡ true)
unfolding encode
ascii_encode c h = (taken (ltb c 128) _ _ h, low_scalar c (below c h))
  where
    taken : (b : Bool) (x y : List ℕ) → b ≡ true → cond b x y ≡ x
    taken true x y h = refl
    taken false x y h = cc

    below : (c : ℕ) → ltb c 128 ≡ true → c < 55296
    below c h = grind (arith, nat_tests)

-- ASCII characters are their own bytes.
pub ascii : (cs : List ℕ) → list_all is_ascii cs ≡ true → Spell cs cs
ascii [] h = nothing
ascii (c ∷ cs) h =
    let x = and_parts _ _ h in
    let y = ascii_encode c x.0 in
    let z = ascii cs x.1 in
    record { text = ap (λ v. v ++ encode_utf8_all cs) y.0 ∙ ap (λ v. c ∷ v) z.text; right = and_from (scalar c) (scalars cs) y.1 z.right }

-- the function leaves each byte as it is
abbrev Singles : (ℕ → List ℕ) → List ℕ → Type 0
Singles e [] = Unit {0}
Singles e (b ∷ bs) = (e b ≡ b ∷ []) × Singles e bs

singles : (e : ℕ → List ℕ) (bs : List ℕ) → Singles e bs → flat_map e bs ≡ bs
singles e [] h = refl
singles e (b ∷ bs) h = ap (λ v. v ++ flat_map e bs) h.0 ∙ ap (λ v. b ∷ v) (singles e bs h.1)

pub pick : (P : List ℕ → Type 0) (b : Bool) (x y : List ℕ) → (b ≡ true → P x) → (b ≡ false → P y) → P (cond b x y)
pick P true x y f g = f refl
pick P false x y f g = g refl

encode_singles : (e : ℕ → List ℕ) (c : ℕ) → e c ≡ c ∷ [] → ((b : ℕ) → 128 ≤ b → e b ≡ b ∷ []) → Singles e (encode c)
unfolding encode
encode_singles e c low high =
    pick (Singles e) (ltb c 128) _ _ (λ _. (low, tt))
    (λ _. pick (Singles e) (ltb c 2048) _ _ (λ _. (high _ (omega arith), (high _ (omega arith), tt)))
    (λ _. pick (Singles e) (ltb c 65536) _ _ (λ _. (high _ (omega arith), (high _ (omega arith), (high _ (omega arith), tt))))
    (λ _. (high _ (omega arith), (high _ (omega arith), (high _ (omega arith), (high _ (omega arith), tt)))))))

skip : (b : Bool) (x y : List ℕ) → b ≡ false → cond b x y ≡ y
skip true x y h = cc
skip false x y h = refl

word_other : (c : ℕ) → Other c → word_escaped c ≡ c ∷ []
unfolding word_escaped
word_other c o = skip (c == 38) _ _ o.amp ∙ (skip (c == 60) _ _ o.less ∙ (skip (c == 62) _ _ o.more ∙ skip (c == 13) _ _ o.return))

value_other : (c : ℕ) → OtherYet c → Other c → value_escaped c ≡ c ∷ []
unfolding value_escaped
value_other c y o = skip (c == 34) _ _ y.quote ∙ (skip (c == 9) _ _ y.tab ∙ (skip (c == 10) _ _ y.line ∙ word_other c o))

unlike : (c k : ℕ) → k < c → (c == k) ≡ false
unlike c k h = grind (arith, nat_tests)

high_other : (b : ℕ) → 128 ≤ b → Other b
high_other b h = record { amp = unlike b 38 (omega arith); less = unlike b 60 (omega arith); more = unlike b 62 (omega arith); return = unlike b 13 (omega arith) }

high_other_yet : (b : ℕ) → 128 ≤ b → OtherYet b
high_other_yet b h = record { quote = unlike b 34 (omega arith); tab = unlike b 9 (omega arith); line = unlike b 10 (omega arith) }

-- a character that stands for itself
itself : (e : ℕ → List ℕ) (c : ℕ) → scalar c ≡ true → e c ≡ c ∷ [] → ((b : ℕ) → 128 ≤ b → e b ≡ b ∷ []) → Spell (c ∷ []) (flat_map e (encode_utf8 c))
itself e c u low high = record {
  text = append-nil (encode c) ∙ sym (singles e (encode c) (encode_singles e c low high));
  right = and_from (scalar c) true u refl;
}

word_spelled : (c : ℕ) → scalar c ≡ true → Spell (bit_text (word_bit c)) (flat_map word_escaped (encode_utf8 c))
unfolding word_escaped encode
word_spelled c u =
    word_cases (λ v b. Spell (bit_text b) (flat_map word_escaped (encode_utf8 v))) (ascii (codes "&amp;") refl) (ascii (codes "&lt;") refl) (ascii (codes "&gt;") refl) (ascii (codes "&#13;") refl) c
    (λ o. itself word_escaped c u (word_other c o) (λ b h. word_other b (high_other b h)))

value_spelled : (c : ℕ) → scalar c ≡ true → Spell (bit_text (value_bit c)) (flat_map value_escaped (encode_utf8 c))
unfolding value_escaped word_escaped encode
value_spelled c u =
    value_cases (λ v b. Spell (bit_text b) (flat_map value_escaped (encode_utf8 v))) (ascii (codes "&quot;") refl) (ascii (codes "&#9;") refl) (ascii (codes "&#10;") refl) c
    (λ y. word_cases (λ v b. Spell (bit_text b) (flat_map value_escaped (encode_utf8 v))) (ascii (codes "&amp;") refl) (ascii (codes "&lt;") refl) (ascii (codes "&gt;") refl) (ascii (codes "&#13;") refl) c
    (λ o. itself value_escaped c u (value_other c y o) (λ b h. value_other b (high_other_yet b h) (high_other b h))))

pub value_bits_spelled : (cs : List ℕ) → scalars cs ≡ true → Spell (bits_text (map value_bit cs)) (value_text (encode_utf8_all cs))
value_bits_spelled [] u = nothing
value_bits_spelled (c ∷ cs) u =
    let x = and_parts _ _ u in
    along _ _ _ (sym (flat_map-append value_escaped (encode_utf8 c) (encode_utf8_all cs)))
    (behind _ _ _ _ (value_spelled c x.0) (value_bits_spelled cs x.1))

-- a text's characters, and then more
abbrev pub said : List ℕ → Content → Content
said [] k = k
said (c ∷ cs) k = bit (word_bit c) (said cs k)

pub said_spelled : (cs : List ℕ) (k : Content) (w : List ℕ) → scalars cs ≡ true → Spell (text k) w → Spell (text (said cs k)) (words_text (encode_utf8_all cs) ++ w)
said_spelled [] k w u h = h
said_spelled (c ∷ cs) k w u h =
    let x = and_parts _ _ u in
    along _ _ _ (sym (append_assoc (flat_map word_escaped (encode_utf8 c)) (words_text (encode_utf8_all cs)) w) ∙ ap (λ v. v ++ w) (sym (flat_map-append word_escaped (encode_utf8 c) (encode_utf8_all cs))))
    (behind _ _ _ _ (word_spelled c x.0) (said_spelled cs k w x.1 h))

and_no : (a b : Bool) → b ≡ false → not (a && b) ≡ true
and_no true b h = ap not h
and_no false b h = refl

plain_other : (c : ℕ) → is_char c ≡ true → Other c → is_plain c ≡ true
unfolding is_plain
plain_other c h o = and_from _ _ (and_from _ _ h (ap not o.less)) (ap not o.amp)

word_bit_said : (m c : ℕ) → is_char c ≡ true → IsBit (is_said m) (word_bit c)
unfolding is_first is_name is_digit
word_bit_said m c h =
    word_cases (λ v b. IsBit (is_said m) b) (refl, (refl, (refl, tt))) (refl, (refl, tt)) (refl, (refl, tt)) (refl, (refl, tt)) c
    (λ o. and_from _ _ (plain_other c h o) (and_no (m == 2) (c == 62) o.more))

pub value_bit_valued : (c : ℕ) → is_char c ≡ true → IsBit (is_valued 34) (value_bit c)
unfolding is_first is_name is_digit
value_bit_valued c h =
    value_cases (λ v b. IsBit (is_valued 34) b) (refl, (refl, (refl, (refl, tt)))) (refl, tt) (refl, (refl, tt)) c
    (λ y. word_cases (λ v b. IsBit (is_valued 34) b) (refl, (refl, (refl, tt))) (refl, (refl, tt)) (refl, (refl, tt)) (refl, (refl, tt)) c
    (λ o. and_from _ _ (plain_other c h o) (ap not y.quote)))

pub value_bits_valued : (cs : List ℕ) → list_all is_char cs ≡ true → AreBits (is_valued 34) (map value_bit cs)
value_bits_valued [] h = tt
value_bits_valued (c ∷ cs) h = let x = and_parts _ _ h in (value_bit_valued c x.0, value_bits_valued cs x.1)

-- content that fits behind any brackets
abbrev pub Fits : Content → Type 0
Fits k = (m : ℕ) → IsContentAfter m k

pub said_fits : (cs : List ℕ) (k : Content) → list_all is_char cs ≡ true → Fits k → Fits (said cs k)
said_fits [] k h f = f
said_fits (c ∷ cs) k h f = let x = and_parts _ _ h in λ m. (word_bit_said m c x.0, said_fits cs k x.1 f (brackets_after m (word_bit c)))

only_space : (c : ℕ) → is_white c ≡ true → (c == 9) ≡ false → (c == 10) ≡ false → (c == 13) ≡ false → 32 ≡ c
unfolding is_white
only_space c w a b d = grind (arith, nat_tests)

and_false : (a : Bool) → a && false ≡ false
and_false true = refl
and_false false = refl

space_encode : (c : ℕ) → 32 ≡ c → 32 ∷ [] ≡ encode_utf8 c
unfolding encode
space_encode c e = subst (λ (v : ℕ). 32 ∷ [] ≡ encode_utf8 v) e refl

-- a character of a value that stands for itself
value_letter : (c : ℕ) → OtherYet c → Other c → value_end false c ≡ encode_utf8 c
unfolding value_end
value_letter c y o = skip (c == 10 && false) _ _ (and_false (c == 10)) ∙ pick (λ v. v ≡ encode_utf8 c) (is_white c) _ _ (λ w. space_encode c (only_space c w y.tab y.line o.return)) (λ _. refl)

abbrev Means : ℕ → Bit → Type 0
Means c b = (in_value false b ≡ encode_utf8 c) × (is_return b ≡ false)

value_bit_means : (c : ℕ) → Means c (value_bit c)
unfolding entity carried is_char digit_value encode
value_bit_means c =
    value_cases Means (refl, refl) (refl, refl) (refl, refl) c
    (λ y. word_cases Means (refl, refl) (refl, refl) (refl, refl) (refl, refl) c (λ o. (value_letter c y o, o.return)))

pub value_bits_mean : (cs : List ℕ) → value_of false (map value_bit cs) ≡ encode_utf8_all cs
value_bits_mean [] = refl
value_bits_mean (c ∷ cs) =
    let m = value_bit_means c in
    ap (λ v. v ++ value_of (is_return (value_bit c)) (map value_bit cs)) m.0
    ∙ (ap (λ v. encode_utf8 c ++ value_of v (map value_bit cs)) m.1 ∙ ap (λ v. encode_utf8 c ++ v) (value_bits_mean cs))

abbrev NoFault : ℕ → Bit → Type 0
NoFault c b = (l : Level) → (bit_passed b l).found ≡ l.found

value_bit_clean : (c : ℕ) → NoFault c (value_bit c)
unfolding entity carried is_char digit_value encode
value_bit_clean c =
    value_cases NoFault (λ l. refl) (λ l. refl) (λ l. refl) c
    (λ y. word_cases NoFault (λ l. refl) (λ l. refl) (λ l. refl) (λ l. refl) c (λ o l. refl))

pub value_bits_clean : (cs : List ℕ) (l : Level) → (bits_passed (map value_bit cs) l).found ≡ l.found
value_bits_clean [] l = refl
value_bits_clean (c ∷ cs) l = value_bits_clean cs (bit_passed (value_bit c) l) ∙ value_bit_clean c l

-- past a text: its bytes are added
pub record Hears (l : Level) (t : List ℕ) (m : Level) : Type 0 where
  pub before : m.before ≡ l.before
  pub letters : m.letters ≡ l.letters ++ t
  pub returned : m.returned ≡ false
  pub found : m.found ≡ l.found

pub heard_letter : (c : ℕ) (l : Level) → (c == 13) ≡ false → l.returned ≡ false → Hears l (encode_utf8 c) (heard c l)
unfolding line_end
heard_letter c l r h = record {
  before = refl;
  letters = ap (λ v. l.letters ++ v) (skip (c == 13) _ _ r ∙ skip (c == 10 && l.returned) _ _ (ap (λ v. c == 10 && v) h ∙ and_false (c == 10)));
  returned = r;
  found = refl;
}

abbrev Hearing : ℕ → Bit → Type 0
Hearing c b = (l : Level) → l.returned ≡ false → Hears l (encode_utf8 c) (bit_told b l)

word_bit_told : (c : ℕ) → Hearing c (word_bit c)
unfolding entity carried is_char digit_value encode
word_bit_told c =
    word_cases Hearing (λ l h. escaped l (encode_utf8 38) _) (λ l h. escaped l (encode_utf8 60) _) (λ l h. escaped l (encode_utf8 62) _) (λ l h. escaped l (encode_utf8 13) _) c
    (λ o l h. heard_letter c l o.return h)
  where
    escaped : (l : Level) (t : List ℕ) (at : ℕ) → Hears l t (record { before = l.before; letters = l.letters ++ t; returned = false; found = l.found; at = at })
    escaped l t at = record { before = refl; letters = refl; returned = refl; found = refl }

pub said_told : (d : ℕ) (scope : List Binding) (cs : List ℕ) (k : Content) (l : Level) → l.returned ≡ false
    → (m : Level) × (told d scope (said cs k) l ≡ told d scope k m) × Hears l (encode_utf8_all cs) m
said_told d scope [] k l h = (l, refl, record { before = refl; letters = sym (append-nil l.letters); returned = h; found = refl })
said_told d scope (c ∷ cs) k l h =
    let x = word_bit_told c l h in
    let y = said_told d scope cs k (bit_told (word_bit c) l) x.returned in (
      y.0,
      y.1,
      record {
        before = y.2.before ∙ x.before;
        letters = y.2.letters ∙ (ap (λ v. v ++ encode_utf8_all cs) x.letters ∙ append_assoc l.letters (encode_utf8 c) (encode_utf8_all cs));
        returned = y.2.returned;
        found = y.2.found ∙ x.found;
      },
    )
