use Rattle.std.proofs.Common.{◌≡◌, ◌++◌, length}
use Rattle.zi_tree.specs.Walk.{spots, places}
use Rattle.zi_tree.specs.Waiting.{waiting_places}
use Rattle.zi_tree.proofs.walk.places.Given as goal

abbrev pub invariant-loop-folder : goal.invariant-loop-folder
invariant-loop-folder l = spots l.found.items ++ waiting_places l.waiting.items ≡ places l.tree

abbrev pub decreases-loop-folder : goal.decreases-loop-folder
decreases-loop-folder l = length (waiting_places l.waiting.items)
