use Rattle.std.proofs.Common.{◌-◌}
use Rattle.zi_sat.specs.Ends.{AreDecided}
use Rattle.zi_conflict.proofs.opposites.least_open.Given as goal

abbrev pub invariant-loop-x : goal.invariant-loop-x
invariant-loop-x l = AreDecided l.x l.t.entries

abbrev pub decreases-loop-x : goal.decreases-loop-x
decreases-loop-x l = l.t.variables - l.x
