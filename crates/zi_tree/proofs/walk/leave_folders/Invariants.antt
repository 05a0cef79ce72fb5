use Rattle.std.proofs.Common.{◌≡◌, ◌≤◌, ◌++◌, length}
use Rattle.zi_tree.specs.Paths.{items, after}
use Rattle.zi_tree.specs.Walk.{folder_places}
use Rattle.zi_tree.specs.Waiting.{waiting_places}
use Rattle.zi_tree.proofs.walk.leave_folders.Given as goal

abbrev pub invariant-loop-left : goal.invariant-loop-left
invariant-loop-left l = (l.left ≤ length (items l.tree)) × (waiting_places l.waiting.items ≡ folder_places l.path (after l.left l.tree) ++ waiting_places l.fn.waiting.items)

abbrev pub decreases-loop-left : goal.decreases-loop-left
decreases-loop-left l = l.left
