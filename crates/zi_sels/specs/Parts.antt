-- The parts of a selection, as they are read one kind after another.
use Rattle.std.specs.Prelude.{◌≡◌, ℕ, List, ◌++◌, map, codes, Option, None, unwrap_or}
use Rattle.std.specs.List.{flat_map}
use Rattle.zi_elements.specs.Forest.{Elem, attribute, value}
use Rattle.zi_digest.specs.declared.DigestName.{DigestName}
use Rattle.zi_reading.specs.Ways.{AsWritten}
use Rattle.zi_parts.specs.Digests.{said_digests}
use Rattle.zi_parts.specs.Values.{binding_of, dep_of, command_of}
use Rattle.zi_faults.specs.Faults.{least, lesser_of}
use Rattle.zi_feed.specs.Feeds.{part_fault}
use Rattle.zi_faults.specs.declared.fault.Fault.{Fault}
use Rattle.zi_sels.specs.declared.types.Selection.{Selection}
use Rattle.zi_sels.specs.declared.selecting.Parts.{Parts}
use Rattle.zi_sels.specs.Read.{counting, bindings_in, package_in, local_in, digests_in, id_digest, in_order_of_use}
use Rattle.zi_sels.specs.Notes.{right, faults_of}
use Rattle.zi_sels.specs.Refused.{parts_in}

-- a selection of these parts
abbrev pub selection_with : Elem → Parts → Selection
selection_with e parts = record {
  interface = value (codes "interface") e;
  id = value (codes "id") e;
  version = value (codes "version") e;
  from_feed = unwrap_or (attribute (codes "from-feed") e) (value (codes "interface") e);
  «package» = package_in e;
  local = local_in e;
  arch = attribute (codes "arch") e;
  released = attribute (codes "released") e;
  stability = attribute (codes "stability") e;
  digests = parts.digests;
  deps = parts.deps;
  commands = parts.commands;
  bindings = parts.bindings;
}

-- These are the digests of a selection, of those of its elements that have no fault, and of all faults of these the first one counts.
pub record AreDigestsOf (e : Elem) (fault : Option Fault) (names : List DigestName) (now : Option Fault) : Type 0 where
  pub digests : names ≡ in_order_of_use (flat_map said_digests (right part_fault (digests_in e)) ++ id_digest e)
  pub first : now ≡ lesser_of fault (least (faults_of part_fault (digests_in e)))

-- These are the parts of a selection that have no fault, and of all faults of its parts the first one counts.
pub record ArePartsOf (e : Elem) (fault : Option Fault) (parts : Parts) (now : Option Fault) : Type 0 where
  pub bindings : parts.bindings ≡ map binding_of (right part_fault (bindings_in e))
  pub deps : parts.deps ≡ map (dep_of AsWritten) (right part_fault (counting (codes "requires") e))
  pub commands : parts.commands ≡ map (command_of AsWritten) (right part_fault (counting (codes "command") e))
  pub digests : parts.digests ≡ in_order_of_use (flat_map said_digests (right part_fault (digests_in e)) ++ id_digest e)
  pub first : now ≡ lesser_of fault (least (faults_of part_fault (parts_in e)))
