use Rattle.std.proofs.Common.{◌≡◌, ◌+◌, ◌≤◌, true}
use Rattle.zi_tree.specs.Dir.{size_of}
use Rattle.zi_tree.specs.Views.{dir_of}
use Rattle.zi_tree.specs.Order.{is_tree}
use Rattle.zi_tree.proofs.apart.down.Given as goal

abbrev pub invariant-loop-name : goal.invariant-loop-name
invariant-loop-name l = (is_tree (dir_of l.above.items) ≡ true) × (is_tree (dir_of l.here.items) ≡ true) × (size_of (dir_of l.above.items) + size_of (dir_of l.here.items) ≤ size_of (dir_of l.fn.above.items) + size_of (dir_of l.fn.here.items))

abbrev pub decreases-loop-name : goal.decreases-loop-name
decreases-loop-name l = size_of (dir_of l.here.items)
