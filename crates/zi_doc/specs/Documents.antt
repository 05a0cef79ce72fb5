-- The tree that bytes spell, and their fault.
use Rattle.std.specs.Prelude.{◌≡◌, ℕ, List, [], ◌∷◌, IsUtf8, Result, Ok, Err}
use Rattle.std.specs.Str.Lossy.{utf8_valid_len}
use Rattle.zi_elements.specs.declared.element.Element.{Element}
use Rattle.zi_xml.specs.Meaning.{Fault, Kind, encoding_kind, doctype_kind, entity_kind, prefix_kind, repeated_kind, depth_kind}
use Rattle.zi_xml.specs.Documents as documents
use Rattle.zi_doc.specs.declared.fault.DocFault.{DocFault}
use Rattle.zi_doc.specs.declared.fault.DocFault.TheVariants as faults
use Rattle.zi_doc.specs.declared.fault.DocKind.{DocKind}
use Rattle.zi_doc.specs.declared.fault.DocKind.TheVariants as kinds

-- The bytes are UTF-8 (RFC 3629), and they are a document without a fault, whose root is this tree.
abbrev pub Spells : List ℕ → Element → Type 0
Spells w t = IsUtf8 w × documents.Spells w t

-- a fault of this kind and place is shown before any other
abbrev pub Shows : List ℕ → Kind → ℕ → Type 0
Shows w k p = IsUtf8 w × ((f : Fault) × documents.Shows w f × (f.kind ≡ k) × (f.place ≡ p))

-- The bytes have this fault. That they aren't UTF-8 is tested first: the place is the first byte that doesn't belong to a
-- well-formed character. Syntax has the place at which they stop being the front of a document.
abbrev pub HasFault : List ℕ → DocKind → ℕ → Type 0
HasFault w kinds.NotUtf8 p = (¬ IsUtf8 w) × (p ≡ utf8_valid_len w)
HasFault w kinds.Encoding p = Shows w encoding_kind p
HasFault w kinds.Doctype p = Shows w doctype_kind p
HasFault w kinds.Syntax p = IsUtf8 w × documents.Stops w p
HasFault w kinds.Entity p = Shows w entity_kind p
HasFault w kinds.Prefix p = Shows w prefix_kind p
HasFault w kinds.Repeated p = Shows w repeated_kind p
HasFault w kinds.Depth p = Shows w depth_kind p

-- an answer other than a tree is the fault that the bytes have, or want of memory
abbrev pub FaultMeans : List ℕ → DocFault → Type 0
FaultMeans w faults.Memory = Unit {0}
FaultMeans w (faults.Bad k p) = HasFault w k p

-- the answer is this tree, or memory was refused
abbrev pub GivesTree : Result Element DocFault → Element → Type 0
GivesTree (Ok e) t = e ≡ t
GivesTree (Err faults.Memory) t = Unit {0}
GivesTree (Err (faults.Bad k p)) t = ⊥

-- the answer is this fault, or memory was refused
abbrev pub GivesFault : Result Element DocFault → DocKind → ℕ → Type 0
GivesFault (Ok e) k p = ⊥
GivesFault (Err faults.Memory) k p = Unit {0}
GivesFault (Err (faults.Bad j q)) k p = (j ≡ k) × (q ≡ p)
