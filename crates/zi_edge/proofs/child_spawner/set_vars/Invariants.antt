-- The variables from a place on are set.
use Rattle.std.proofs.Common.{◌≤◌, length, drop}
use Rattle.zi_edge.specs.Commands.{SetsVars}
use Rattle.zi_edge.proofs.child_spawner.set_vars.Given as goal

abbrev pub invariant-loop-left : goal.invariant-loop-left
invariant-loop-left l = (l.left ≤ length l.vars) × SetsVars l.fn.command (drop l.left l.vars) l.command

abbrev pub decreases-loop-left : goal.decreases-loop-left
decreases-loop-left l = l.left
