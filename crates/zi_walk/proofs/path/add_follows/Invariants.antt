use Rattle.std.proofs.Common.{◌≤◌, ◌<◌, length, drop}
use Rattle.std.specs.List.{flat_map}
use Rattle.zi_walk.specs.Lists.{list_at}
use Rattle.zi_walk.specs.Kept.{Longer, FollowsFirst}
use Rattle.zi_walk.proofs.path.add_follows.Given as goal

abbrev pub invariant-loop-left : goal.invariant-loop-left
invariant-loop-left l = record {
  within : l.left ≤ length l.pieces;
  lists : Longer l.fn.tasks l.tasks;
  inside : l.first < length l.tasks;
  follows : FollowsFirst (flat_map (λ q. q.now) (drop l.left l.pieces)) (list_at l.fn.tasks l.fn.later) (list_at l.tasks l.first);
}

abbrev pub decreases-loop-left : goal.decreases-loop-left
decreases-loop-left l = l.left
