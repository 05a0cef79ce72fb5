-- Elements of the injector's namespace as they are made, one by one, and what is added to the children of an element.
use Rattle.std.specs.Prelude.{◌≡◌, ℕ, List, [], ◌++◌, map}
use Rattle.zi_elements.specs.declared.element.Attr.{Attr}
use Rattle.zi_elements.specs.declared.element.Node.{Node}
use Rattle.zi_elements.specs.Forest.{Forest, gathered, node_view, Elem}
use Rattle.zi_elements.specs.Namespace.{injector}
use Rattle.zi_docout.specs.Amiss.{alone}

-- an attribute without a namespace
abbrev pub attr : List ℕ → List ℕ → Attr
attr name value = record { space = []; name = name; value = value }

-- elements as nodes
abbrev pub nodes : List Elem → Forest
nodes inside = gathered (map alone inside)

-- an element of the injector's namespace, with these elements in it
abbrev pub elem : List ℕ → List Attr → List Elem → Elem
elem name attrs inside = record { space = injector; name = name; attrs = attrs; inside = nodes inside; place = 0 }

-- behind the nodes of old stand these elements
abbrev pub Adds : List Node → List Node → List Elem → Type 0
Adds old new elems = map node_view new ≡ map node_view old ++ map alone elems
