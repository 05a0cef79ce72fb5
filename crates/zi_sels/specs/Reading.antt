-- What bytes say as a selections document, and why they say nothing.
use Rattle.std.specs.Prelude.{◌≡◌, ℕ, List, Option, Some, None, Result, Ok, Err, ◌⊎◌}
use Rattle.zi_elements.specs.declared.element.Element.{Element}
use Rattle.zi_elements.specs.Forest.{element_view}
use Rattle.zi_doc.specs.Documents as doc
use Rattle.zi_doc.specs.declared.fault.DocFault.{DocFault}
use Rattle.zi_doc.specs.declared.fault.DocFault.TheVariants as of
use Rattle.zi_doc.specs.declared.fault.DocKind.{DocKind}
use Rattle.zi_sels.specs.declared.types.Selections.{Selections}
use Rattle.zi_sels.specs.declared.fault.SelsFault.{SelsFault}
use Rattle.zi_sels.specs.declared.fault.SelsFault.TheVariants as fault
use Rattle.zi_sels.specs.Read.{selections_of}
use Rattle.zi_sels.specs.Refused.{tree_fault}

-- the bytes spell a tree without a fault, which says these
pub record Says (bytes : List ℕ) (sels : Selections) : Type 0 where
  pub tree : Element
  pub spells : doc.Spells bytes tree
  pub right : tree_fault (element_view tree) ≡ None
  pub means : sels ≡ selections_of (element_view tree)

-- the bytes are no document, and this is why
abbrev pub HasDocFault : List ℕ → SelsFault → Type 0
HasDocFault bytes f = (kind : DocKind) × (place : ℕ) × doc.HasFault bytes kind place × (f ≡ fault.Doc kind place)

-- the bytes spell a tree that has this fault
abbrev pub HasTreeFault : List ℕ → SelsFault → Type 0
HasTreeFault bytes f = (t : Element) × doc.Spells bytes t × (tree_fault (element_view t) ≡ Some f)

-- the fault of the bytes: they are no document, or the tree that they spell has it
abbrev pub HasFault : List ℕ → SelsFault → Type 0
HasFault bytes f = HasDocFault bytes f ⊎ HasTreeFault bytes f

-- an answer other than selections: memory was refused, or the bytes have this fault
abbrev pub FaultMeans : List ℕ → SelsFault → Type 0
FaultMeans bytes f = (f ≡ fault.Memory) ⊎ HasFault bytes f

-- memory was refused, or the answer is this
abbrev pub Gives : Result Selections SelsFault → Result Selections SelsFault → Type 0
Gives answer expected = (answer ≡ Err fault.Memory) ⊎ (answer ≡ expected)

-- the answer of reading a tree: the value where there is no fault, and else the fault, unless memory was refused
abbrev pub ReadsTree : Option SelsFault → Selections → Result Selections SelsFault → Type 0
ReadsTree found value (Ok s) = (found ≡ None) × (s ≡ value)
ReadsTree found value (Err f) = (f ≡ fault.Memory) ⊎ (found ≡ Some f)

-- the answer of a test of a tree: nothing where there is no fault, and else the fault, unless memory was refused
abbrev pub Passes : {X : Type 0} → Option SelsFault → Result X SelsFault → Type 0
Passes found (Ok x) = found ≡ None
Passes found (Err f) = (f ≡ fault.Memory) ⊎ (found ≡ Some f)

-- Bytes say selections or have a fault, no two of either, and not both.
pub record IsSettled (bytes : List ℕ) : Type 0 where
  pub some : ((s : Selections) × Says bytes s) ⊎ ((f : SelsFault) × HasFault bytes f)
  pub value : (s t : Selections) → Says bytes s → Says bytes t → s ≡ t
  pub fault : (f g : SelsFault) → HasFault bytes f → HasFault bytes g → f ≡ g
  pub apart : (s : Selections) (f : SelsFault) → Says bytes s → HasFault bytes f → ⊥

-- the fault of a document
abbrev pub IsOfDocument : DocFault → SelsFault → Type 0
IsOfDocument (of.Bad kind place) f = f ≡ fault.Doc kind place
IsOfDocument of.Memory f = f ≡ fault.Memory
