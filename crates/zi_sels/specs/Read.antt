-- What the tree of a selections document says, in any layout (the published format of selections documents). Elements are read as
-- those of a feed are, addresses as they are written and without restrictions.
use Rattle.std.specs.Prelude.{ℕ, Bool, not, ◌||◌, List, [], ◌++◌, map, filter, codes, Option, None, unwrap_or, if◌then◌else◌}
use Rattle.std.specs.List.{find, filter_map, flat_map}
use Rattle.zi_elements.specs.Forest.{Elem, elements, attribute, value}
use Rattle.zi_digest.specs.declared.Algorithm.{Algorithm}
use Rattle.zi_digest.specs.declared.DigestName.{DigestName}
use Rattle.zi_address.specs.Texts.{is_none}
use Rattle.zi_reading.specs.Ways.{AsWritten}
use Rattle.zi_reading.specs.Words.{optional}
use Rattle.zi_parts.specs.Digests.{algorithms, digest_of, said_digests}
use Rattle.zi_parts.specs.Values.{binding_of, dep_of, command_of}
use Rattle.zi_feed.specs.Means.{counts_as, counts_as_binding}
use Rattle.zi_sels.specs.declared.types.Selection.{Selection}
use Rattle.zi_sels.specs.declared.types.Selections.{Selections}
use Rattle.zi_sels.specs.Written.{is_by}

-- the elements of a name in one, but for those that their conditions leave out
abbrev pub counting : List ℕ → Elem → List Elem
counting name e = filter (counts_as name) (elements e.inside)

-- the selections of a document
abbrev pub selections_in : Elem → List Elem
selections_in root = counting (codes "selection") root

-- the bindings in an element
abbrev pub bindings_in : Elem → List Elem
bindings_in e = filter counts_as_binding (elements e.inside)

-- a selection of a package of the operating system: its folder and its digests are passed over, and so is what is wrong with them
abbrev pub is_package : Elem → Bool
is_package e = not (is_none (value (codes "package") e))

-- the package
abbrev pub package_in : Elem → Option (List ℕ)
package_in e = if is_package e then attribute (codes "package") e else None

-- the path of the folder
abbrev pub local_in : Elem → Option (List ℕ)
local_in e = if is_package e then None else attribute (codes "local-path") e

-- the elements with digests
abbrev pub digests_in : Elem → List Elem
digests_in e = if is_package e then [] else counting (codes "manifest-digest") e

-- the id, where that is a digest
abbrev pub id_digest : Elem → List DigestName
id_digest e = if is_package e then [] else optional (digest_of (value (codes "id") e))

-- the digests that a selection has, in the order of the document: what its elements say, and its id where that is one
abbrev pub said_in : Elem → List DigestName
said_in e = flat_map said_digests (digests_in e) ++ id_digest e

-- by each algorithm the first of some digests, in the order of use
abbrev pub in_order_of_use : List DigestName → List DigestName
in_order_of_use names = filter_map (λ (a : Algorithm). find (is_by a) names) algorithms

-- what an element says as a selection
unfoldable pub selection_of : Elem → Selection
selection_of e = record {
  interface = value (codes "interface") e;
  id = value (codes "id") e;
  version = value (codes "version") e;
  from_feed = unwrap_or (attribute (codes "from-feed") e) (value (codes "interface") e);
  «package» = package_in e;
  local = local_in e;
  arch = attribute (codes "arch") e;
  released = attribute (codes "released") e;
  stability = attribute (codes "stability") e;
  digests = in_order_of_use (said_in e);
  deps = map (dep_of AsWritten) (counting (codes "requires") e);
  commands = map (command_of AsWritten) (counting (codes "command") e);
  bindings = map binding_of (bindings_in e);
}

-- what a tree says as a document
unfoldable pub selections_of : Elem → Selections
selections_of root = record {
  interface = value (codes "interface") root;
  command = attribute (codes "command") root;
  items = map selection_of (selections_in root);
}
