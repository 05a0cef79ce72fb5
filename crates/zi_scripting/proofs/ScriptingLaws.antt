-- A launch that is taken down.
use Rattle.std.proofs.Common.{inl, inr, refl, [], Some, None, Ok}
use Rattle.zi_outside.specs.Launched.{Launches}
use Rattle.zi_outside.specs.declared.launch.Launch.{Launch}
use Rattle.zi_launching.specs.Launching.{Starts}
use Rattle.zi_outcome.specs.declared.outcome.Outcome.TheVariants.{Child}
use Rattle.zi_scripting.specs.Scripting.{nothing_taken, this_taken}

-- it counts as started, and its status is 0
pub starts_taken : (launch : Launch) → Starts launch nothing_taken (this_taken launch) (Child 0)
starts_taken launch = (record { ran = refl; faults = refl; plan = refl }, record { calls = refl; planned = tt })
