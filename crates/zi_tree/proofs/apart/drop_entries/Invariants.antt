use Rattle.std.proofs.Common.{◌≡◌, true}
use Rattle.zi_tree.specs.Dir.{size_of}
use Rattle.zi_tree.specs.Views.{dir_of}
use Rattle.zi_tree.specs.Order.{is_tree}
use Rattle.zi_tree.proofs.apart.drop_entries.Given as goal

abbrev pub invariant-loop-name : goal.invariant-loop-name
invariant-loop-name l = is_tree (dir_of l.left.items) ≡ true

abbrev pub decreases-loop-name : goal.decreases-loop-name
decreases-loop-name l = size_of (dir_of l.left.items)
