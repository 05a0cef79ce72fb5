-- Each input has one answer.
use Rattle.std.specs.Prelude.{◌≡◌, ℕ, List, ◌⊎◌}
use Rattle.zi_elements.specs.declared.element.Element.{Element}
use Rattle.zi_doc.specs.declared.fault.DocKind.{DocKind}
use Rattle.zi_doc.specs.Documents.{Spells, HasFault}

-- Bytes spell a tree or have a fault, no two trees, no two faults, and not both.
pub record IsSettled (w : List ℕ) : Type 0 where
  pub some : ((t : Element) × Spells w t) ⊎ ((k : DocKind) × (p : ℕ) × HasFault w k p)
  pub tree : (t u : Element) → Spells w t → Spells w u → t ≡ u
  pub fault : (j k : DocKind) (p q : ℕ) → HasFault w j p → HasFault w k q → (j ≡ k) × (p ≡ q)
  pub apart : (t : Element) (k : DocKind) (p : ℕ) → Spells w t → HasFault w k p → ⊥
