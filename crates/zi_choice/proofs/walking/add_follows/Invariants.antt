use Rattle.std.proofs.Common.{◌≤◌, length, drop, List}
use Rattle.std.specs.List.{flat_map}
use Rattle.zi_choice.specs.declared.traced.Stop.{Stop}
use Rattle.zi_choice.specs.Stops.{FollowStops}
use Rattle.zi_choice.specs.Tasks.{universe_of, picks_of, Runs, Then}
use Rattle.zi_choice.proofs.walking.add_follows.Given as goal

abbrev pub invariant-loop-left : goal.invariant-loop-left
invariant-loop-left l = record {
  within : l.left ≤ length l.pieces;
  runs : (a w : List Stop) → Runs (universe_of l.on) (picks_of l.on) l.tasks.items a w
      → Then (universe_of l.on) (picks_of l.on) (FollowStops (universe_of l.on) (picks_of l.on) (flat_map (λ s. s.now) (drop l.left l.pieces))) l.initial.tasks.items a w;
}

abbrev pub decreases-loop-left : goal.decreases-loop-left
decreases-loop-left l = l.left
