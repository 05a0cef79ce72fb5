-- A tree of elements as definitions read it: nodes and their siblings in one, so that what is said of all of them is said by
-- structural recursion.
use Rattle.std.specs.Prelude.{ℕ, suc, max, Bool, not, ◌&&◌, List, [], ◌∷◌, ◌++◌, map, bytes_eq, Option, is_some, option_map, unwrap_or}
use Rattle.std.specs.List.{find}
use Rattle.zi_elements.specs.declared.element.Attr.{Attr}
use Rattle.zi_elements.specs.declared.element.Element.{Element}
use Rattle.zi_elements.specs.declared.element.Node.{Node}
use Rattle.zi_elements.specs.declared.element.Node.TheFolds.{fold-Node}
use Rattle.zi_elements.specs.declared.element.Node.TheOpen.{Node-F, Element-F}
use Rattle.zi_elements.specs.declared.element.Node.TheOpen as layer

-- Nodes in order: a text, or an element with its namespace, local name, attributes, children and place.
pub data Forest : Type 0 where
  none : Forest
  words : List ℕ → Forest → Forest
  child : List ℕ → List ℕ → List Attr → Forest → ℕ → Forest → Forest

-- one element
pub record Elem : Type 0 where
  pub space : List ℕ
  pub name : List ℕ
  pub attrs : List Attr
  pub inside : Forest
  pub place : ℕ

-- the elements among nodes
abbrev pub elements : Forest → List Elem
elements none = []
elements (words t k) = elements k
elements (child s n attrs f p k) = record { space = s; name = n; attrs = attrs; inside = f; place = p } ∷ elements k

-- the texts among nodes, joined
abbrev pub text_in : Forest → List ℕ
text_in none = []
text_in (words t k) = t ++ text_in k
text_in (child s n attrs f p k) = text_in k

-- without a namespace, and of this name
abbrev pub is_attribute : List ℕ → Attr → Bool
is_attribute name a = bytes_eq a.space [] && bytes_eq a.name name

abbrev pub value_among : List ℕ → List Attr → Option (List ℕ)
value_among name attrs = option_map (λ a. a.value) (find (is_attribute name) attrs)

-- the value of an attribute without a namespace
abbrev pub attribute : List ℕ → Elem → Option (List ℕ)
attribute name e = value_among name e.attrs

abbrev pub has : List ℕ → Elem → Bool
has name e = is_some (attribute name e)

abbrev pub lacks : List ℕ → Elem → Bool
lacks name e = not (has name e)

-- that value, or the empty text
abbrev pub value : List ℕ → Elem → List ℕ
value name e = unwrap_or (attribute name e) []

-- nodes one behind another
abbrev pub joined : Forest → Forest → Forest
joined none g = g
joined (words t f) g = words t (joined f g)
joined (child s n attrs f p k) g = child s n attrs f p (joined k g)

abbrev pub gathered : List Forest → Forest
gathered [] = none
gathered (f ∷ fs) = joined f (gathered fs)

-- one level, with each child already seen
abbrev pub node_step : Node-F Forest Forest → Forest
node_step (layer.Child e) = e
node_step (layer.Words t) = words t none

abbrev pub element_step : Element-F Forest Forest → Forest
element_step e = child e.space e.name e.attrs (gathered e.children) e.place none

-- a node, and nodes, as the definitions read them
abbrev pub node_view : Node → Forest
node_view = fold-Node Forest Forest node_step element_step

abbrev pub nodes_view : List Node → Forest
nodes_view ns = gathered (map node_view ns)

-- an element as the definitions read it
abbrev pub element_view : Element → Elem
element_view e = record { space = e.space; name = e.name; attrs = e.attrs; inside = nodes_view e.children; place = e.place }

-- a tree as nodes: its root alone
abbrev pub whole : Element → Forest
whole t = child t.space t.name t.attrs (nodes_view t.children) t.place none

-- How deep the elements among nodes go: an element that holds none is one deep.
abbrev pub depth : Forest → ℕ
depth none = 0
depth (words t k) = depth k
depth (child s n attrs f p k) = max (suc (depth f)) (depth k)
