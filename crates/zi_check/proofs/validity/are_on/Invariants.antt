use Rattle.std.proofs.Common.{map}
use Rattle.zi_choice.specs.Traces.{as_place}
use Rattle.zi_check.specs.Parts.{Below, IsOn}
use Rattle.zi_check.proofs.validity.are_on.Given as goal

abbrev pub invariant-loop-i : goal.invariant-loop-i
invariant-loop-i l = Below l.i (IsOn (map as_place l.places) l.picks)
