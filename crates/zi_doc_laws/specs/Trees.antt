-- What a tree keeps that a document spells: relations over the tree and the bytes (XML 1.0, Fifth Edition, and Namespaces in XML 1.0).
use Rattle.std.specs.Prelude.{◌≡◌, ℕ, Bool, true, false, ◌||◌, ◌==◌, List, [], ◌∷◌, ◌++◌, length, encode_utf8_all}
use Rattle.zi_elements.specs.declared.element.Attr.{Attr}
use Rattle.zi_elements.specs.Forest.{Forest, none, words, child}
use Rattle.zi_names.specs.Names.{is_empty, local as local_part}
use Rattle.zi_xml.specs.Chars.{is_char, is_white}
use Rattle.zi_xml.specs.Syntax.{AllAre, IsName}

-- nodes that begin with a text
abbrev pub has_text_first : Forest → Bool
has_text_first none = false
has_text_first (words t k) = true
has_text_first (child s n attrs f p k) = false

-- 2.4: what stands between two elements, or between an element and a tag of the one around it, is one text or none. So among
-- nodes, and in each of them, no text is empty, and none has another right behind it.
abbrev pub HasWholeTexts : Forest → Type 0
HasWholeTexts none = Unit {0}
HasWholeTexts (words t k) = (is_empty t ≡ false) × ((has_text_first k ≡ false) × HasWholeTexts k)
HasWholeTexts (child s n attrs f p k) = HasWholeTexts f × HasWholeTexts k

-- what may stand behind the name of a start tag or of an empty tag: white space, `/`, `>`
abbrev pub ends_name : ℕ → Bool
ends_name c = is_white c || c == 47 || c == 62

-- [40], [44]: behind so many bytes stands `<`, a name that ends there, and the local part of that name is this one.
pub record HasTag (w : List ℕ) (place : ℕ) (name : List ℕ) : Type 0 where
  pub front : List ℕ
  pub written : List ℕ
  pub next : ℕ
  pub rest : List ℕ
  pub bytes : w ≡ front ++ 60 ∷ (encode_utf8_all written ++ next ∷ rest)
  pub at : place ≡ length front
  pub named : IsName written
  pub ends : ends_name next ≡ true
  pub local : name ≡ local_part (encode_utf8_all written)

-- So it is with each element among nodes and in them: its place is the number of bytes before the `<` of its tag.
abbrev pub HasTags : List ℕ → Forest → Type 0
HasTags w none = Unit {0}
HasTags w (words t k) = HasTags w k
HasTags w (child s n attrs f p k) = HasTag w p n × (HasTags w f × HasTags w k)

-- 2.2 [2]: bytes that are characters that XML can carry, each of them in UTF-8
pub record IsCarried (t : List ℕ) : Type 0 where
  pub chars : List ℕ
  pub bytes : t ≡ encode_utf8_all chars
  pub right : AllAre is_char chars

abbrev pub HasCarriedValues : List Attr → Type 0
HasCarriedValues [] = Unit {0}
HasCarriedValues (a ∷ attrs) = IsCarried a.value × HasCarriedValues attrs

-- each text, and each value of an attribute, among nodes and in them
abbrev pub HasCarriedTexts : Forest → Type 0
HasCarriedTexts none = Unit {0}
HasCarriedTexts (words t k) = IsCarried t × HasCarriedTexts k
HasCarriedTexts (child s n attrs f p k) = HasCarriedValues attrs × (HasCarriedTexts f × HasCarriedTexts k)
