-- When two trees are the same, but for places and for texts of white space that stand beside elements.
use Rattle.std.specs.Prelude.{◌≡◌, Bool, true, false, ◌&&◌, if◌then◌else◌}
use Rattle.std.specs.List.{list_all}
use Rattle.zi_xml.specs.Chars.{is_white}
use Rattle.zi_elements.specs.declared.element.Element.{Element}
use Rattle.zi_elements.specs.Forest.{Forest, none, words, child, Elem, element_view}
use Rattle.zi_doc.specs.Documents.{Spells}
use Rattle.zi_docout.specs.Canonical.{document}

-- an element is among these nodes
abbrev pub has_child : Forest → Bool
has_child none = false
has_child (words t k) = has_child k
has_child (child s n attrs f p k) = true

-- Nodes without places, and, where an element is among them, without texts of white space: so at each level.
abbrev pub bare : Bool → Forest → Forest
bare beside none = none
bare beside (words t k) = if beside && list_all is_white t then bare beside k else words t (bare beside k)
bare beside (child s n attrs f p k) = child s n attrs (bare (has_child f) f) 0 (bare beside k)

-- nodes without places
abbrev pub unplaced : Forest → Forest
unplaced none = none
unplaced (words t k) = words t (unplaced k)
unplaced (child s n attrs f p k) = child s n attrs (unplaced f) 0 (unplaced k)

-- The read tree is the written one, places aside, once its texts of white space that stand beside an element are left out.
pub record IsSame (written read : Elem) : Type 0 where
  pub space : read.space ≡ written.space
  pub name : read.name ≡ written.name
  pub attrs : read.attrs ≡ written.attrs
  pub inside : bare (has_child read.inside) read.inside ≡ unplaced written.inside

-- The canonical text of the tree spells a tree, and each tree that it spells is the same.
pub record IsReadBack (e : Element) : Type 0 where
  pub some : (t : Element) × Spells (document (element_view e)) t
  pub same : (t : Element) → Spells (document (element_view e)) t → IsSame (element_view e) (element_view t)
