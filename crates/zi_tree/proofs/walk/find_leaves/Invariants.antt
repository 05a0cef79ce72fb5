use Rattle.std.proofs.Common.{◌≡◌, ◌++◌}
use Rattle.zi_tree.specs.Paths.{after}
use Rattle.zi_tree.specs.Walk.{spots, leaf_places}
use Rattle.zi_tree.proofs.walk.find_leaves.Given as goal

abbrev pub invariant-loop-i : goal.invariant-loop-i
invariant-loop-i l = spots l.found.items ++ leaf_places l.path (after l.i l.tree) ≡ spots l.fn.found.items ++ leaf_places l.path l.tree
