use Rattle.std.proofs.Common.{◌≤◌, length}
use Rattle.zi_walk.proofs.kept.firm_places.Given as goal

abbrev pub invariant-loop-n : goal.invariant-loop-n
invariant-loop-n l = l.n ≤ length l.path.stops.items

abbrev pub decreases-loop-n : goal.decreases-loop-n
decreases-loop-n l = l.n
