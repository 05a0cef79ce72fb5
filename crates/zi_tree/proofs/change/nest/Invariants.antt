use Rattle.std.proofs.Common.{◌≡◌, ◌≤◌, length, drop}
use Rattle.zi_tree.specs.Paths.{nested}
use Rattle.zi_tree.proofs.change.nest.Given as goal

abbrev pub invariant-loop-left : goal.invariant-loop-left
invariant-loop-left l = (l.left ≤ length l.names) × (l.made ≡ nested (drop l.left l.names) l.fn.node)

abbrev pub decreases-loop-left : goal.decreases-loop-left
decreases-loop-left l = l.left
