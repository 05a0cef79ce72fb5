-- The canonical text of a tree, as XML 1.0 in UTF-8. Texts are lists of bytes; an ASCII character is its byte.
use Rattle.std.specs.Prelude.{ℕ, zero, suc, ◌==◌, List, [], ◌∷◌, ◌++◌, if◌then◌else◌, codes, flat_map}
use Rattle.zi_elements.specs.declared.element.Attr.{Attr}
use Rattle.zi_elements.specs.Forest.{Forest, none, words, child, Elem}
use Rattle.zi_elements.specs.Namespace.{injector}

-- in a text: `&`, `<`, `>` and CR are written as references (4.1, 4.6), and the rest as it is
unfoldable pub word_escaped : ℕ → List ℕ
word_escaped c =
    if c == 38 then codes "&amp;"
    else if c == 60 then codes "&lt;"
    else if c == 62 then codes "&gt;"
    else if c == 13 then codes "&#13;"
    else c ∷ []

-- in a value: `"`, tab and LF too
unfoldable pub value_escaped : ℕ → List ℕ
value_escaped c =
    if c == 34 then codes "&quot;"
    else if c == 9 then codes "&#9;"
    else if c == 10 then codes "&#10;"
    else word_escaped c

abbrev pub words_text : List ℕ → List ℕ
words_text t = flat_map word_escaped t

abbrev pub value_text : List ℕ → List ℕ
value_text v = flat_map value_escaped v

-- a space, the name, `="`, the value, `"`
abbrev pub attr_text : Attr → List ℕ
attr_text a = 32 ∷ (a.name ++ 61 ∷ 34 ∷ (value_text a.value ++ 34 ∷ []))

-- `<`, the name, the attributes in their order
abbrev pub tag_text : List ℕ → List Attr → List ℕ
tag_text n attrs = 60 ∷ (n ++ flat_map attr_text attrs)

-- `</`, the name, `>`
abbrev pub end_text : List ℕ → List ℕ
end_text n = 60 ∷ 47 ∷ (n ++ 62 ∷ [])

-- two spaces for each element around
abbrev pub indent : ℕ → List ℕ
indent zero = []
indent (suc d) = 32 ∷ 32 ∷ indent d

-- The rest of an element behind its attributes, d elements standing around it: `/>` where it has no child; where its child is a
-- text, `>`, the text, the end tag; where its children are elements, `>`, a line end, their lines, and the end tag on a line
-- that is indented as the element's start.
abbrev pub rest_text : ℕ → List ℕ → Forest → List ℕ → List ℕ
rest_text d n none lines = 47 ∷ 62 ∷ []
rest_text d n (words t k) lines = 62 ∷ (words_text t ++ end_text n)
rest_text d n (child s m attrs f p k) lines = 62 ∷ 10 ∷ (lines ++ (indent d ++ end_text n))

-- the elements among nodes, each on a line of its own, d elements standing around them
abbrev pub lines_text : ℕ → Forest → List ℕ
lines_text d none = []
lines_text d (words t k) = lines_text d k
lines_text d (child s n attrs f p k) = indent d ++ (tag_text n attrs ++ (rest_text d n f (lines_text (suc d) f) ++ 10 ∷ lines_text d k))

-- the declaration of the namespace, which is the root's first attribute
abbrev pub declaring : Attr
declaring = record { space = []; name = codes "xmlns"; value = injector }

-- the line with the XML declaration ([23]), the root element, a line end
abbrev pub document : Elem → List ℕ
document e =
    codes "<?xml version=\"1.0\" encoding=\"utf-8\"?>" ++ 10 ∷ (tag_text e.name (declaring ∷ e.attrs) ++ (rest_text 0 e.name e.inside (lines_text 1 e.inside) ++ 10 ∷ []))
