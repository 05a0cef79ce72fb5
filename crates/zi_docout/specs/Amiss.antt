-- Which elements can't be written, and which of them is the first.
use Rattle.std.specs.Prelude.{ℕ, suc, Bool, false, not, ◌||◌, ◌&&◌, ◌==◌, nat_lt, nat_le, List, [], ◌∷◌, ◌++◌, Option, codes}
use Rattle.std.specs.List.{list_any, list_all, position_from}
use Rattle.std.specs.Str.{bytes_eq, chars, is_utf8}
use Rattle.zi_elements.specs.declared.element.Attr.{Attr}
use Rattle.zi_elements.specs.Forest.{Forest, none, words, child, Elem}
use Rattle.zi_names.specs.Names.{is_empty, has_twice}
use Rattle.zi_xml.specs.Chars.{is_char, is_letter, is_digit}
use Rattle.zi_elements.specs.Namespace.{injector}

abbrev pub is_name_byte : ℕ → Bool
is_name_byte c = is_letter c || is_digit c || c == 45 || c == 95

-- ASCII letters, digits, `-` and `_`, a letter first
unfoldable pub is_plain_name : List ℕ → Bool
is_plain_name [] = false
is_plain_name (c ∷ cs) = is_letter c && list_all is_name_byte cs

-- a text of characters that XML can carry (XML 1.0, 2.2), each of them in UTF-8
unfoldable pub is_carried : List ℕ → Bool
is_carried t = is_utf8 t && list_all is_char (chars t)

-- an attribute that has a namespace, another name, the name of the declaration of the namespace, or a value that XML can't carry
unfoldable pub is_amiss_attr : Attr → Bool
is_amiss_attr a = not (is_empty a.space) || not (is_plain_name a.name) || bytes_eq a.name (codes "xmlns") || not (is_carried a.value)

abbrev pub same_name : Attr → Attr → Bool
same_name a b = bytes_eq a.name b.name

-- the texts among nodes
abbrev pub texts : Forest → List (List ℕ)
texts none = []
texts (words t k) = t ∷ texts k
texts (child s n attrs f p k) = texts k

-- how many nodes
abbrev pub count : Forest → ℕ
count none = 0
count (words t k) = suc (count k)
count (child s n attrs f p k) = suc (count k)

-- of so many children a text that isn't the only one, is empty, or holds a character that XML can't carry
unfoldable pub is_amiss_text : ℕ → List ℕ → Bool
is_amiss_text n t = nat_lt 1 n || is_empty t || not (is_carried t)

-- an element, and how many elements stand around it
pub record Standing : Type 0 where
  pub around : ℕ
  pub space : List ℕ
  pub name : List ℕ
  pub attrs : List Attr
  pub inside : Forest

-- It can't be written: it stands at depth 65 or deeper, the root standing at depth 1; it has another namespace; another name; an
-- attribute that can't be written; a text that can't be written; one attribute twice.
unfoldable pub is_amiss : Standing → Bool
is_amiss e =
    nat_le 64 e.around
    || not (bytes_eq e.space injector)
    || not (is_plain_name e.name)
    || list_any is_amiss_attr e.attrs
    || list_any (is_amiss_text (count e.inside)) (texts e.inside)
    || has_twice same_name e.attrs

-- an element that so many stand around
abbrev pub standing_of : ℕ → Elem → Standing
standing_of d e = record { around = d; space = e.space; name = e.name; attrs = e.attrs; inside = e.inside }

-- the elements in the order of their start tags, so many standing around the outermost
abbrev pub standing : ℕ → Forest → List Standing
standing d none = []
standing d (words t k) = standing d k
standing d (child s n attrs f p k) = record { around = d; space = s; name = n; attrs = attrs; inside = f } ∷ (standing (suc d) f ++ standing d k)

-- a tree as nodes
abbrev pub alone : Elem → Forest
alone e = child e.space e.name e.attrs e.inside e.place none

-- the number of the first element that can't be written, counted from 0 in the order of start tags
unfoldable pub first_amiss : Elem → Option ℕ
first_amiss e = position_from is_amiss 0 (standing 0 (alone e))
