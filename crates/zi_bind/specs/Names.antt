-- The fault of arguments is told by the names of the variables that are set.
use Rattle.std.specs.Prelude.{◌≡◌, ℕ, List, Option, Some, None, Result, Ok, Err, is_some}
use Rattle.zi_parts.specs.declared.types.Word.{Word}
use Rattle.zi_bind.specs.declared.fault.BindFault.{BindFault}
use Rattle.zi_bind.specs.Expansion.{Values, each_of, expanded}

-- the same variables are set
abbrev pub HaveSameNames : Values → Values → Type 0
HaveSameNames v w = (name : List ℕ) → is_some (v name) ≡ is_some (w name)

abbrev pub fault_in : {X : Type 0} → Result X BindFault → Option BindFault
fault_in (Ok x) = None
fault_in (Err reason) = Some reason

-- where the same variables are set, words have the same fault, if they have one
abbrev pub FaultsByNames : Type 0
FaultsByNames = (v w : Values) → HaveSameNames v w → (words : List Word) → fault_in (each_of (expanded v) words) ≡ fault_in (each_of (expanded w) words)
