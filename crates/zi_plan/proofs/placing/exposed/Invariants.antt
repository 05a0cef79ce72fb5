use Rattle.std.proofs.Common.{◌≡◌, map, take}
use Rattle.zi_plan.specs.Placed.{exposed}
use Rattle.zi_plan.specs.Steps.{placed_seen}
use Rattle.zi_plan.proofs.placing.exposed.Given as goal

abbrev pub invariant-loop-x : goal.invariant-loop-x
invariant-loop-x l = l.dirs ≡ exposed (map placed_seen (take l.x-index l.placed))
