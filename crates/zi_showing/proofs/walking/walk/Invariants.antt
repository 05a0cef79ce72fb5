use Rattle.std.proofs.Common.{map, length}
use Rattle.zi_showing.specs.Steps.{asked_in, place_seen}
use Rattle.zi_showing.proofs.WalkLaws.{Walking}
use Rattle.zi_showing.proofs.walking.walk.Given as goal

abbrev pub invariant-loop-place : goal.invariant-loop-place
invariant-loop-place l = Walking l.sels l.left.entries (asked_in l.pending.items) (map place_seen l.places)

abbrev pub decreases-loop-place : goal.decreases-loop-place
decreases-loop-place l = length l.left.entries
