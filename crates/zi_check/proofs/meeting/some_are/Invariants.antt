use Rattle.std.proofs.Common.{ℕ, ◌<◌}
use Rattle.zi_check.specs.Parts.{IsOf}
use Rattle.zi_check.proofs.meeting.some_are.Given as goal

abbrev pub invariant-loop-i : goal.invariant-loop-i
invariant-loop-i l = (j : ℕ) → j < l.i → IsOf l.on l.width j → ⊥
