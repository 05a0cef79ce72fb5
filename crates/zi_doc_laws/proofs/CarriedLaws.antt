-- Texts and values are of characters that XML can carry.
use Rattle.std.proofs.Common.{◌≡◌, ℕ, Bool, true, false, ◌&&◌, ◌==◌, not, List, [], ◌∷◌, ◌++◌, map, Option, Some, None, refl, sym, ap, ◌∙◌, append-nil}
use Rattle.std.specs.Prelude.{filter, encode_utf8, encode_utf8_all, codes, if◌then◌else◌}
use Rattle.std.specs.Str.{bytes_eq}
use Rattle.std.proofs.Math.Utf8.{encode}
use Rattle.std.proofs.lemmas.Str.{encodes-append}
use Rattle.std.proofs.lemmas.Bool.{and_parts}
use Rattle.zi_names.specs.declared.attributes.Raw.{Raw}
use Rattle.zi_names.specs.declared.attributes.Binding.{Binding}
use Rattle.zi_names.specs.Names.{is_declaration, resolved as attribute, attributes_of}
use Rattle.zi_xml.specs.Chars.{is_char, is_white, is_plain, is_valued, entity}
use Rattle.zi_xml.specs.Syntax.{Bit, letter, entity_of, decimal, hexadecimal, Written, AllAre, IsBit, AreBits, AreWritten, is_said, is_unclosed}
use Rattle.zi_xml.specs.Meaning.{line_end, value_end, carried, target, meant, is_return, in_value, value_of, raw_of}
use Rattle.zi_doc_laws.specs.Trees.{IsCarried, HasCarriedValues}

pub none_carried : IsCarried []
none_carried = record { chars = []; bytes = refl; right = tt }

all_append : (p : ℕ → Bool) (a b : List ℕ) → AllAre p a → AllAre p b → AllAre p (a ++ b)
all_append p [] b h k = k
all_append p (c ∷ a) b h k = (h.0, all_append p a b h.1 k)

pub both_carried : (s t : List ℕ) → IsCarried s → IsCarried t → IsCarried (s ++ t)
both_carried s t x y = record {
  chars = x.chars ++ y.chars;
  bytes = ap (λ v. v ++ t) x.bytes ∙ (ap (λ v. encode_utf8_all x.chars ++ v) y.bytes ∙ sym (encodes-append x.chars y.chars));
  right = all_append is_char x.chars y.chars x.right y.right;
}

one_carried : (c : ℕ) → is_char c ≡ true → IsCarried (encode_utf8 c)
one_carried c h = record { chars = c ∷ []; bytes = sym (append-nil (encode_utf8 c)); right = (h, tt) }

space_carried : IsCarried (32 ∷ [])
unfolding encode is_char
space_carried = record { chars = 32 ∷ []; bytes = refl; right = (refl, tt) }

line_carried : IsCarried (10 ∷ [])
unfolding encode is_char
line_carried = record { chars = 10 ∷ []; bytes = refl; right = (refl, tt) }

-- one of two texts
either : (b : Bool) (s t : List ℕ) → IsCarried s → IsCarried t → IsCarried (if b then s else t)
either true s t x y = x
either false s t x y = y

pub line_end_carried : (returned : Bool) (c : ℕ) → is_char c ≡ true → IsCarried (line_end returned c)
unfolding line_end
line_end_carried returned c h = either (c == 13) _ _ line_carried (either (c == 10 && returned) _ _ none_carried (one_carried c h))

value_end_carried : (returned : Bool) (c : ℕ) → is_char c ≡ true → IsCarried (value_end returned c)
unfolding value_end
value_end_carried returned c h = either (c == 10 && returned) _ _ none_carried (either (is_white c) _ _ space_carried (one_carried c h))

-- What a reference stands for.

abbrev pub IsCharOr : Option ℕ → Type 0
IsCharOr None = Unit {0}
IsCharOr (Some c) = is_char c ≡ true

pub meant_carried : (o : Option ℕ) → IsCharOr o → IsCarried (meant o)
meant_carried None h = none_carried
meant_carried (Some c) h = one_carried c h

or_char : (b : Bool) (o p : Option ℕ) → IsCharOr o → IsCharOr p → IsCharOr (if b then o else p)
or_char true o p h k = h
or_char false o p h k = k

entity_char : (n : List ℕ) → IsCharOr (entity n)
unfolding entity is_char
entity_char n =
    or_char (bytes_eq n (codes "amp")) _ _ refl
    (or_char (bytes_eq n (codes "lt")) _ _ refl
    (or_char (bytes_eq n (codes "gt")) _ _ refl (or_char (bytes_eq n (codes "quot")) _ _ refl (or_char (bytes_eq n (codes "apos")) _ _ refl tt))))

number_char : (n : ℕ) → IsCharOr (carried n)
unfolding carried
number_char n = by (is_char n) refl
  where
    by : (b : Bool) → is_char n ≡ b → IsCharOr (if b then Some n else None)
    by true h = h
    by false h = tt

pub entity_carried : (n : List ℕ) → IsCarried (meant (target (entity_of n)))
entity_carried n = meant_carried (target (entity_of n)) (entity_char _)

pub decimal_carried : (ds : List ℕ) → IsCarried (meant (target (decimal ds)))
decimal_carried ds = meant_carried (target (decimal ds)) (number_char _)

pub hexadecimal_carried : (ds : List ℕ) → IsCarried (meant (target (hexadecimal ds)))
hexadecimal_carried ds = meant_carried (target (hexadecimal ds)) (number_char _)

-- A character that stands for itself.

pub plain_char : (c : ℕ) → is_plain c ≡ true → is_char c ≡ true
unfolding is_plain
plain_char c h = (and_parts (is_char c) _ (and_parts (is_char c && not (c == 60)) _ h).0).0

pub said_char : (n c : ℕ) → is_said n c ≡ true → is_char c ≡ true
said_char n c h = plain_char c (and_parts (is_plain c) (is_unclosed n c) h).0

-- Values.

bit_carried : (q : ℕ) (returned : Bool) (b : Bit) → IsBit (is_valued q) b → IsCarried (in_value returned b)
bit_carried q returned (letter c) h = value_end_carried returned c (plain_char c (and_parts (is_plain c) (not (c == q)) h).0)
bit_carried q returned (entity_of n) h = entity_carried n
bit_carried q returned (decimal ds) h = decimal_carried ds
bit_carried q returned (hexadecimal ds) h = hexadecimal_carried ds

value_carried : (q : ℕ) (returned : Bool) (bs : List Bit) → AreBits (is_valued q) bs → IsCarried (value_of returned bs)
value_carried q returned [] h = none_carried
value_carried q returned (b ∷ bs) h = both_carried (in_value returned b) (value_of (is_return b) bs) (bit_carried q returned b h.0) (value_carried q (is_return b) bs h.1)

abbrev AreCarried : List Raw → Type 0
AreCarried [] = Unit {0}
AreCarried (a ∷ raws) = IsCarried a.value × AreCarried raws

raws_carried : (ws : List Written) → AreWritten ws → AreCarried (raw_of ws)
raws_carried [] h = tt
raws_carried (a ∷ ws) h = (value_carried a.quote false a.value h.0.value, raws_carried ws h.1)

those_carried : (scope : List Binding) (p : Raw → Bool) (raws : List Raw) → AreCarried raws → HasCarriedValues (map (attribute scope) (filter p raws))
unfolding attribute
those_carried scope p [] h = tt
those_carried scope p (a ∷ raws) h = by (p a) (those_carried scope p raws h.1)
  where
    by : (b : Bool) → HasCarriedValues (map (attribute scope) (filter p raws)) → HasCarriedValues (map (attribute scope) (if b then a ∷ filter p raws else filter p raws))
    by true k = (h.0, k)
    by false k = k

-- the attributes of a tag
pub attributes_carried : (ws : List Written) (scope : List Binding) → AreWritten ws → HasCarriedValues (attributes_of (raw_of ws) scope)
unfolding attributes_of
attributes_carried ws scope h = those_carried scope (λ a. not (is_declaration a)) (raw_of ws) (raws_carried ws h)
