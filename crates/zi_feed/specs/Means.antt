-- What an answer means.
use Rattle.std.specs.Prelude.{◌≡◌, Bool, not, ◌&&◌, List, ℕ, Option, Some, None, Result, Ok, Err}
use Rattle.zi_elements.specs.Forest.{Elem}
use Rattle.zi_reading.specs.Words.{is_among}
use Rattle.zi_reading.specs.Reading.{is, is_ours, is_left_out, binding_names}
use Rattle.zi_faults.specs.declared.fault.Fault.{Fault}
use Rattle.zi_faults.specs.declared.fault.FeedFault.{FeedFault}
use Rattle.zi_faults.specs.declared.fault.FeedFault.TheVariants.{Bad, Memory}

-- the value where there is no fault, and else the fault; want of memory says nothing
abbrev pub Reads : {X : Type 0} → Option Fault → X → Result X FeedFault → Type 0
Reads fault value (Ok x) = (fault ≡ None) × (x ≡ value)
Reads fault value (Err (Bad kind place)) = fault ≡ Some (record { kind = kind; place = place })
Reads fault value (Err Memory) = Unit {0}

-- an element of this name that its condition doesn't leave out
abbrev pub counts_as : List ℕ → Elem → Bool
counts_as name e = is name e && not (is_left_out e)

-- a binding that its condition doesn't leave out
abbrev pub counts_as_binding : Elem → Bool
counts_as_binding e = is_ours e && is_among binding_names e.name && not (is_left_out e)
