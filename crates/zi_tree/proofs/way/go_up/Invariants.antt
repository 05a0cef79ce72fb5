use Rattle.std.proofs.Common.{◌≡◌, ◌≤◌, length, reverse}
use Rattle.zi_tree.specs.Ways.{joined, way, IsWay}
use Rattle.zi_tree.proofs.way.go_up.Given as goal

abbrev pub invariant-loop-depth : goal.invariant-loop-depth
invariant-loop-depth l =
    (l.depth ≤ length l.way) × IsWay (way l.way l.depth) l.above × (joined (way l.way l.depth) l.above l.here ≡ joined (reverse l.way) l.fn.above l.fn.here)

abbrev pub decreases-loop-depth : goal.decreases-loop-depth
decreases-loop-depth l = l.depth
