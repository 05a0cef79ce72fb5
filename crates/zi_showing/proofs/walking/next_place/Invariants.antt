use Rattle.std.proofs.Common.{◌≡◌, length}
use Rattle.zi_showing.specs.Steps.{left_in, asked_in, Passes}
use Rattle.zi_showing.proofs.walking.next_place.Given as goal

abbrev pub invariant-loop-asked : goal.invariant-loop-asked
invariant-loop-asked l =
    (l.left.entries ≡ l.initial.left.entries) × Passes (left_in l.initial.left.entries) (asked_in l.initial.pending.items) (asked_in l.pending.items)

abbrev pub decreases-loop-asked : goal.decreases-loop-asked
decreases-loop-asked l = length l.pending.items
