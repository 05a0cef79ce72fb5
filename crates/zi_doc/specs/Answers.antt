-- What the reader answers.
use Rattle.std.specs.Prelude.{◌≡◌, ℕ, List, [], ◌∷◌, Result, Ok, Err, ◌⊎◌}
use Rattle.std.proofs.Common.{inl, inr}
use Rattle.zi_elements.specs.declared.element.Element.{Element}
use Rattle.zi_elements.specs.declared.element.Node.TheVariants.{Child}
use Rattle.zi_xml.specs.Meaning.{Level, Fault, Kind, encoding_kind, doctype_kind, entity_kind, prefix_kind, repeated_kind, depth_kind}
use Rattle.zi_xml.specs.Machine.{Answer}
use Rattle.zi_doc.specs.declared.fault.DocFault.{DocFault}
use Rattle.zi_doc.specs.declared.fault.DocFault.TheVariants as faults
use Rattle.zi_doc.specs.declared.fault.DocKind.{DocKind}
use Rattle.zi_doc.specs.declared.fault.DocKind.TheVariants as kinds

abbrev pub Found : Answer → Kind → ℕ → Type 0
Found a k p = (f : Fault) × (a ≡ inr (inl f)) × (f.kind ≡ k) × (f.place ≡ p)

-- the answer is this fault
abbrev pub Blamed : Answer → DocKind → ℕ → Type 0
Blamed a kinds.NotUtf8 p = ⊥
Blamed a kinds.Encoding p = Found a encoding_kind p
Blamed a kinds.Doctype p = Found a doctype_kind p
Blamed a kinds.Syntax p = a ≡ inr (inr p)
Blamed a kinds.Entity p = Found a entity_kind p
Blamed a kinds.Prefix p = Found a prefix_kind p
Blamed a kinds.Repeated p = Found a repeated_kind p
Blamed a kinds.Depth p = Found a depth_kind p

-- the answer is this element, or this fault
abbrev pub Finished : Answer → Result Element DocFault → Type 0
Finished a (Ok e) = (l : Level) × (a ≡ inl l) × (l.before ≡ Child e ∷ [])
Finished a (Err faults.Memory) = Unit {0}
Finished a (Err (faults.Bad k p)) = Blamed a k p

-- where the answer is a meaning, it is one element
abbrev pub EndsAsChild : Answer → Type 0
EndsAsChild a = (l : Level) → a ≡ inl l → (e : Element) × (l.before ≡ Child e ∷ [])
