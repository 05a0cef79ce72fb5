-- Namespaces in XML 1.0 (Third Edition). Names, prefixes and addresses are lists of bytes in UTF-8.
use Rattle.std.specs.Prelude.{ℕ, Bool, true, false, ◌||◌, ◌&&◌, ◌==◌, not, List, [], ◌∷◌, ◌++◌, Option, unwrap_or, if◌then◌else◌, codes, nat_eq, map, filter, find, reverse, is_none}
use Rattle.std.specs.List.{list_any, before_first, after_first, starts_with}
use Rattle.std.specs.Option.{option_map}
use Rattle.std.specs.Str.{bytes_eq}
use Rattle.zi_elements.specs.declared.element.Attr.{Attr}
use Rattle.zi_names.specs.declared.attributes.Raw.{Raw}
use Rattle.zi_names.specs.declared.attributes.Binding.{Binding}

abbrev pub is_colon : ℕ → Bool
is_colon c = c == 58

abbrev pub has_colon : List ℕ → Bool
has_colon n = list_any is_colon n

abbrev pub is_empty : List ℕ → Bool
is_empty [] = true
is_empty (c ∷ cs) = false

-- 4 [10]: what stands before the first colon of a name, empty where it has no colon
unfoldable pub prefix : List ℕ → List ℕ
prefix n = if has_colon n then before_first is_colon n else []

-- 4 [11]: what stands behind the first colon of a name, or all of it where it has no colon
unfoldable pub local : List ℕ → List ℕ
local n = if has_colon n then after_first is_colon n else n

-- 4 [7] to [9], a qualified name: no colon, or one with something on either side
unfoldable pub is_qualified : List ℕ → Bool
is_qualified n = not (has_colon n) || (not (is_empty (prefix n)) && not (is_empty (local n)) && not (has_colon (local n)))

-- 3, reserved prefixes and namespace names
abbrev pub xml_address : List ℕ
xml_address = codes "http://www.w3.org/XML/1998/namespace"

abbrev pub xmlns_address : List ℕ
xmlns_address = codes "http://www.w3.org/2000/xmlns/"

-- 3 [1] to [3]: an attribute whose name is `xmlns`, or begins with `xmlns:`, is a declaration
unfoldable pub is_declaration : Raw → Bool
is_declaration a = bytes_eq a.name (codes "xmlns") || starts_with nat_eq a.name (codes "xmlns:")

-- 3: what a declaration binds, the empty prefix being the default namespace
unfoldable pub binding_of : Raw → Binding
binding_of a = record { prefix = if has_colon a.name then local a.name else []; address = a.value }

abbrev pub declared : List Raw → List Binding
declared ws = map binding_of (filter is_declaration ws)

-- 3: before the root the prefix `xml` is bound, and nothing else
unfoldable pub first_scope : List Binding
first_scope = record { prefix = codes "xml"; address = xml_address } ∷ []

-- 6.1: inside a start tag its declarations are in force, before those around it
unfoldable pub scope_in : List Raw → List Binding → List Binding
scope_in ws scope = reverse (declared ws) ++ scope

-- 6.1: the address that a prefix is bound to, which is that of its innermost declaration
abbrev pub lookup : List Binding → List ℕ → Option (List ℕ)
lookup scope p = option_map (λ b. b.address) (find (λ b. bytes_eq b.prefix p) scope)

-- 6.2: the namespace of a prefix, which is empty where it has none
unfoldable pub address_of : List Binding → List ℕ → List ℕ
address_of scope p = unwrap_or (lookup scope p) []

-- 6.2: a default namespace applies to elements alone, so an attribute without a prefix has none
abbrev pub attribute_space : List Binding → List ℕ → List ℕ
attribute_space scope n = if has_colon n then address_of scope (prefix n) else []

-- 2.1, the expanded name of an attribute, with its value
unfoldable pub resolved : List Binding → Raw → Attr
resolved scope a = record { space = attribute_space scope a.name; name = local a.name; value = a.value }

-- the attributes of the tree, in the order of the tag, the declarations left out
unfoldable pub attributes_of : List Raw → List Binding → List Attr
attributes_of ws scope = map (resolved scope) (filter (λ a. not (is_declaration a)) ws)

-- 3, reserved prefixes and namespace names: `xmlns` and its address aren't declared; `xml` has its address, and nothing else has it
unfoldable pub is_reserved : List ℕ → List ℕ → Bool
is_reserved p a =
    bytes_eq p (codes "xmlns") || bytes_eq a xmlns_address
    || (if bytes_eq p (codes "xml") then not (bytes_eq a xml_address) else bytes_eq a xml_address)

-- 5, no prefix undeclaring: a prefix that is bound to the empty address
unfoldable pub is_bad_binding : Binding → Bool
is_bad_binding b = (not (is_empty b.prefix) && is_empty b.address) || is_reserved b.prefix b.address

-- 4, a name that isn't qualified; 5, prefix declared
unfoldable pub is_bad_name : List Binding → List ℕ → Bool
is_bad_name scope n = not (is_qualified n) || (has_colon n && is_none (lookup scope (prefix n)))

unfoldable pub is_bad_attribute : List Binding → Raw → Bool
is_bad_attribute scope a = if is_declaration a then not (is_qualified a.name) || is_bad_binding (binding_of a) else is_bad_name scope a.name

-- a start tag of this name, with these attributes and inside this scope, has a bad name or declaration
unfoldable pub has_bad_prefix : List ℕ → List Raw → List Binding → Bool
has_bad_prefix n ws scope = is_bad_name scope n || list_any (is_bad_attribute scope) ws

-- an item is alike a later one
abbrev pub has_twice : {X : Type 0} → (X → X → Bool) → List X → Bool
has_twice alike [] = false
has_twice alike (x ∷ xs) = list_any (alike x) xs || has_twice alike xs

-- XML 1.0, 3.1, unique attribute specification
abbrev pub same_name : Raw → Raw → Bool
same_name a b = bytes_eq a.name b.name

-- 6.3: the same local part, and prefixes that are bound to the same address
abbrev pub same_expanded : List Binding → Raw → Raw → Bool
same_expanded scope a b = bytes_eq (local a.name) (local b.name) && bytes_eq (address_of scope (prefix a.name)) (address_of scope (prefix b.name))

-- an attribute of the tree that has a prefix
abbrev pub is_prefixed : Raw → Bool
is_prefixed a = has_colon a.name && not (is_declaration a)

-- 6.3: two attributes have the same name as written, or the same expanded name
unfoldable pub has_repeated : List Raw → List Binding → Bool
has_repeated ws scope = has_twice same_name ws || has_twice (same_expanded scope) (filter is_prefixed ws)
