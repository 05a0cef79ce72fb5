use Rattle.zi_sat.specs.Trail.{known_from}
use Rattle.zi_choice.specs.Left.{to_come}
use Rattle.zi_walk.specs.Rule.{so_far}
use Rattle.zi_walk.specs.Kept.{stand_of, walk_to}
use Rattle.zi_walk.specs.Firm.{OnWay}
use Rattle.zi_walk.proofs.kept.go_on.Given as goal

abbrev pub invariant-loop-blocked : goal.invariant-loop-blocked
invariant-loop-blocked l = OnWay l.on.names.now l.on.requirement.now l.t.entries (stand_of l.path)

abbrev pub decreases-loop-blocked : goal.decreases-loop-blocked
decreases-loop-blocked l =
    to_come l.on.names.now (so_far l.on.names.now (known_from l.t.entries)) (walk_to (so_far l.on.names.now (known_from l.t.entries)) (stand_of l.path))
