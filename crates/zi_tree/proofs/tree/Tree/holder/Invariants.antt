use Rattle.std.proofs.Common.{◌≡◌, ◌<◌, ◌-◌, length, drop}
use Rattle.zi_tree.specs.Paths.{holder}
use Rattle.zi_tree.proofs.tree.Tree.holder.Given as goal

abbrev pub invariant-loop-depth : goal.invariant-loop-depth
invariant-loop-depth l = (l.depth < length l.parts) × (holder (drop l.depth l.parts) l.here ≡ holder l.parts l.self)

abbrev pub decreases-loop-depth : goal.decreases-loop-depth
decreases-loop-depth l = length l.parts - l.depth
