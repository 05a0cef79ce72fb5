use Rattle.zi_walk.specs.Kept.{stand_of, left_of, sizes}
use Rattle.zi_walk.proofs.PathLaws.{HasMoved}
use Rattle.zi_walk.proofs.path.Path.advance.Given as goal

abbrev pub invariant-loop-task : goal.invariant-loop-task
invariant-loop-task l = HasMoved l.names (stand_of l.initial.self) (stand_of l.self)

abbrev pub decreases-loop-task : goal.decreases-loop-task
decreases-loop-task l = sizes (left_of (stand_of l.self))
