use Rattle.zi_showing.proofs.PieceLaws.{AreFrom}
use Rattle.zi_showing.proofs.left.all_left.Given as goal

abbrev pub invariant-loop-n : goal.invariant-loop-n
invariant-loop-n l = AreFrom l.items l.n l.left.entries

abbrev pub decreases-loop-n : goal.decreases-loop-n
decreases-loop-n l = l.n
