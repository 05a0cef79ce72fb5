use Rattle.std.proofs.Common.{◌-◌, length}
use Rattle.zi_tree.specs.Ways.{Leads}
use Rattle.zi_tree.proofs.way.go_down.Given as goal

abbrev pub invariant-loop-depth : goal.invariant-loop-depth
invariant-loop-depth l = Leads l.parts l.fn.here l.depth l.above l.here

abbrev pub decreases-loop-depth : goal.decreases-loop-depth
decreases-loop-depth l = length l.parts - l.depth
