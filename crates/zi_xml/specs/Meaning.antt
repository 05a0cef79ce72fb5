-- What parse trees mean: the tree, the faults, and places in bytes (XML 1.0, 2.11, 3.3.3, 4.1, 4.6; Namespaces in XML 1.0).
use Rattle.std.specs.Prelude.{ℕ, suc, ◌+◌, nat_le, Bool, true, false, not, ◌==◌, ◌&&◌, List, [], ◌∷◌, ◌++◌, Option, Some, None, if◌then◌else◌, codes, encode_utf8, encode_utf8_all}
use Rattle.zi_elements.specs.declared.element.Attr.{Attr}
use Rattle.zi_elements.specs.declared.element.Element.{Element}
use Rattle.zi_elements.specs.declared.element.Node.{Node}
use Rattle.zi_elements.specs.declared.element.Node.TheVariants.{Child, Words}
use Rattle.zi_names.specs.declared.attributes.Raw.{Raw}
use Rattle.zi_names.specs.declared.attributes.Binding.{Binding}
use Rattle.zi_names.specs.Names.{first_scope, scope_in, has_bad_prefix, has_repeated, address_of, prefix, local, attributes_of}
use Rattle.zi_xml.specs.Chars.{width, is_char, is_white, entity, decimal_from, hex_from, same_letters}
use Rattle.zi_xml.specs.Syntax.{Bit, letter, entity_of, decimal, hexadecimal, bit_text, Written, Content, stop, bit, section, comment, instruction, void, pair, comment_text, instruction_text, end_tag, miscs_text, Key, version_key, encoding_key, standalone_key, Setting, setting_front, Declaration, Root, alone, whole, doctype, Document, mark_text}

-- Kinds of faults that leave the syntax alone, in the order of their numbers.
pub data Kind : Type 0 where
  encoding_kind : Kind
  doctype_kind : Kind
  entity_kind : Kind
  prefix_kind : Kind
  repeated_kind : Kind
  depth_kind : Kind

-- a fault: its kind, its place, and where the bytes end that show it
pub record Fault : Type 0 where
  pub kind : Kind
  pub place : ℕ
  pub ends : ℕ

-- What is known at a place inside an element: the children and the text so far, whether the last character of that text
-- was a CR, the faults so far in the order of the bytes that show them, and the place. Texts are bytes in UTF-8.
pub record Level : Type 0 where
  pub before : List Node
  pub letters : List ℕ
  pub returned : Bool
  pub found : List Fault
  pub at : ℕ

-- past a character that adds nothing
abbrev pub tick : ℕ → Level → Level
tick c l = record { before = l.before; letters = l.letters; returned = false; found = l.found; at = l.at + width c }

abbrev pub passed : List ℕ → Level → Level
passed [] l = l
passed (c ∷ cs) l = passed cs (tick c l)

-- a fault is shown here
abbrev pub blame : Kind → ℕ → Level → Level
blame k p l = record { before = l.before; letters = l.letters; returned = l.returned; found = l.found ++ record { kind = k; place = p; ends = l.at } ∷ []; at = l.at }

abbrev pub blame_if : Bool → Kind → ℕ → Level → Level
blame_if b k p l = if b then blame k p l else l

abbrev pub add : List ℕ → Level → Level
add cs l = record { before = l.before; letters = l.letters ++ cs; returned = l.returned; found = l.found; at = l.at }

-- 2.11 End-of-Line Handling: CR is LF, and LF behind a CR is nothing
unfoldable pub line_end : Bool → ℕ → List ℕ
line_end returned c = if c == 13 then 10 ∷ [] else if c == 10 && returned then [] else encode_utf8 c

-- and in a value, 3.3.3 Attribute-Value Normalization, where white space becomes spaces
unfoldable pub value_end : Bool → ℕ → List ℕ
value_end returned c = if c == 10 && returned then [] else if is_white c then 32 ∷ [] else encode_utf8 c

-- past a character of text
abbrev pub heard : ℕ → Level → Level
heard c l = record { before = l.before; letters = l.letters ++ line_end l.returned c; returned = c == 13; found = l.found; at = l.at + width c }

abbrev pub heard_all : List ℕ → Level → Level
heard_all [] l = l
heard_all (c ∷ cs) l = heard_all cs (heard c l)

-- 4.1, Legal Character: a reference by number stands for a character that XML can carry
unfoldable pub carried : ℕ → Option ℕ
carried c = if is_char c then Some c else None

-- what a reference stands for (4.1, 4.6)
abbrev pub target : Bit → Option ℕ
target (letter c) = Some c
target (entity_of n) = entity (encode_utf8_all n)
target (decimal ds) = carried (decimal_from 0 ds)
target (hexadecimal ds) = carried (hex_from 0 ds)

abbrev pub meant : Option ℕ → List ℕ
meant None = []
meant (Some c) = encode_utf8 c

abbrev pub is_lacking : Option ℕ → Bool
is_lacking None = true
is_lacking (Some c) = false

-- past a reference whose `&` is at p: one that stands for nothing is a fault there
abbrev pub resolved : Option ℕ → ℕ → Level → Level
resolved o p l = blame_if (is_lacking o) entity_kind p l

-- past a character or a reference of text
abbrev pub bit_told : Bit → Level → Level
bit_told (letter c) l = heard c l
bit_told (entity_of n) l = add (meant (target (entity_of n))) (resolved (target (entity_of n)) l.at (passed (bit_text (entity_of n)) l))
bit_told (decimal ds) l = add (meant (target (decimal ds))) (resolved (target (decimal ds)) l.at (passed (bit_text (decimal ds)) l))
bit_told (hexadecimal ds) l = add (meant (target (hexadecimal ds))) (resolved (target (hexadecimal ds)) l.at (passed (bit_text (hexadecimal ds)) l))

-- past a character or a reference of a value
abbrev pub bit_passed : Bit → Level → Level
bit_passed (letter c) l = tick c l
bit_passed (entity_of n) l = resolved (target (entity_of n)) l.at (passed (bit_text (entity_of n)) l)
bit_passed (decimal ds) l = resolved (target (decimal ds)) l.at (passed (bit_text (decimal ds)) l)
bit_passed (hexadecimal ds) l = resolved (target (hexadecimal ds)) l.at (passed (bit_text (hexadecimal ds)) l)

abbrev pub bits_passed : List Bit → Level → Level
bits_passed [] l = l
bits_passed (b ∷ bs) l = bits_passed bs (bit_passed b l)

abbrev pub is_return : Bit → Bool
is_return (letter c) = c == 13
is_return (entity_of n) = false
is_return (decimal ds) = false
is_return (hexadecimal ds) = false

abbrev pub in_value : Bool → Bit → List ℕ
in_value returned (letter c) = value_end returned c
in_value returned (entity_of n) = meant (target (entity_of n))
in_value returned (decimal ds) = meant (target (decimal ds))
in_value returned (hexadecimal ds) = meant (target (hexadecimal ds))

-- what a value means, after a CR or not
abbrev pub value_of : Bool → List Bit → List ℕ
value_of returned [] = []
value_of returned (b ∷ bs) = in_value returned b ++ value_of (is_return b) bs

abbrev pub written_passed : Written → Level → Level
written_passed a l =
    tick a.quote (bits_passed a.value (passed (a.lead ∷ (a.more ++ (a.name ++ (a.before ++ 61 ∷ (a.behind ++ a.quote ∷ []))))) l))

abbrev pub all_passed : List Written → Level → Level
all_passed [] l = l
all_passed (a ∷ ws) l = all_passed ws (written_passed a l)

abbrev pub raw_of : List Written → List Raw
raw_of [] = []
raw_of (a ∷ ws) = record { name = encode_utf8_all a.name; value = value_of false a.value } ∷ raw_of ws

-- the text so far is a node, unless it is empty
abbrev pub flush : List ℕ → List Node
flush [] = []
flush (c ∷ cs) = Words (c ∷ cs) ∷ []

-- the children so far
abbrev pub settled : Level → List Node
settled l = l.before ++ flush l.letters

-- a start tag or an empty tag: its name and attributes as written, and what is known just before its `<`
pub record Tag : Type 0 where
  pub name : List ℕ
  pub raw : List Raw
  pub outer : Level

abbrev pub tag_of : List ℕ → List Written → Level → Tag
tag_of n ws l = record { name = n; raw = raw_of ws; outer = l }

-- an element whose children are still to come: its name as written, its expanded name, its attributes, the declarations
-- that are in force inside it, and what is known just before its `<`
pub record Frame : Type 0 where
  pub name : List ℕ
  pub space : List ℕ
  pub local : List ℕ
  pub attrs : List Attr
  pub scope : List Binding
  pub outer : Level

-- what a tag means under the declarations around it
abbrev pub framed : List Binding → Tag → Frame
framed scope t =
    let inner = scope_in t.raw scope in
    let name = encode_utf8_all t.name in
    record { name = t.name; space = address_of inner (prefix name); local = local name; attrs = attributes_of t.raw inner; scope = inner; outer = t.outer }

-- A tag ends here: its faults of names, at its `<`.
abbrev pub judged : List Binding → Tag → Level → Level
judged scope t l =
    let inner = scope_in t.raw scope in
    blame_if (has_repeated t.raw inner) repeated_kind t.outer.at (blame_if (has_bad_prefix (encode_utf8_all t.name) t.raw inner) prefix_kind t.outer.at l)

-- inside a new element, with the faults and the place of l
abbrev pub fresh : Level → Level
fresh l = record { before = []; letters = []; returned = false; found = l.found; at = l.at }

abbrev pub element_of : Frame → List Node → Element
element_of f children = record { space = f.space; name = f.local; attrs = f.attrs; children = children; place = f.outer.at }

-- the element with these children is a child of the one around it, with the faults and the place of l
abbrev pub adopt : Frame → Level → Level
adopt f l = record { before = settled f.outer ++ Child (element_of f (settled l)) ∷ []; letters = []; returned = false; found = l.found; at = l.at }

-- past the name of an element at depth d, whose `<` is at p: the first character of it shows that it is too deep
abbrev pub named_on : ℕ → ℕ → List ℕ → Level → Level
named_on d p [] l = l
named_on d p (c ∷ cs) l = passed cs (blame_if (nat_le 65 d) depth_kind p (tick c l))

-- past a tag with its last characters, under the declarations around it
abbrev pub tag_passed : ℕ → List Binding → List ℕ → List Written → List ℕ → List ℕ → Level → Level
tag_passed d scope n ws e close l = judged scope (tag_of n ws l) (passed (e ++ close) (all_passed ws (named_on d l.at n (tick 60 l))))

-- what content says in an element at depth d, inside these declarations, after what is known before it
abbrev pub told : ℕ → List Binding → Content → Level → Level
told d scope stop l = l
told d scope (bit b k) l = told d scope k (bit_told b l)
told d scope (section cs k) l = told d scope k (passed (codes "]]>") (heard_all cs (passed (codes "<![CDATA[") l)))
told d scope (comment cs k) l = told d scope k (passed (comment_text cs) l)
told d scope (instruction n cs k) l = told d scope k (passed (instruction_text n cs) l)
told d scope (void n ws e k) l =
    told d scope k (adopt (framed scope (tag_of n ws l)) (fresh (tag_passed (suc d) scope n ws e (47 ∷ 62 ∷ []) l)))
told d scope (pair n ws e i f k) l =
    let frame = framed scope (tag_of n ws l) in
    told d scope k (adopt frame (passed (end_tag n f) (told (suc d) frame.scope i (fresh (tag_passed (suc d) scope n ws e (62 ∷ []) l)))))

abbrev pub root_told : Root → Level → Level
root_told (alone n ws e) l = told 0 first_scope (void n ws e stop) l
root_told (whole n ws e i f) l = told 0 first_scope (pair n ws e i f stop) l
root_told doctype l = blame doctype_kind l.at (passed (codes "<!DOCTYPE") l)

-- an encoding other than UTF-8 (4.3.3), ASCII case aside, is a fault at the value's first byte, p, shown by the closing quote
abbrev pub set : Key → List ℕ → ℕ → Level → Level
set version_key v p l = l
set encoding_key v p l = blame_if (not (same_letters (encode_utf8_all v) (codes "UTF-8"))) encoding_kind p l
set standalone_key v p l = l

-- past a setting
abbrev pub setting_told : Key → Setting → Level → Level
setting_told k s l = let v = passed (setting_front k s) l in set k s.value v.at (passed (s.value ++ s.quote ∷ []) v)

abbrev pub optional_told : Key → Option Setting → Level → Level
optional_told k None l = l
optional_told k (Some s) l = setting_told k s l

abbrev pub declaration_told : Declaration → Level → Level
declaration_told d l =
    passed (d.last ++ codes "?>") (optional_told standalone_key d.standalone (optional_told encoding_key d.encoding (setting_told version_key d.version (passed (codes "<?xml") l))))

abbrev pub declared_told : Option Declaration → Level → Level
declared_told None l = l
declared_told (Some d) l = declaration_told d l

-- before the first byte
abbrev pub start : Level
start = record { before = []; letters = []; returned = false; found = []; at = 0 }

-- what a document says
abbrev pub document_told : Document → Level
document_told d = passed (miscs_text d.tail) (root_told d.root (passed (miscs_text d.front) (declared_told d.declaration (passed (mark_text d.mark) start))))
