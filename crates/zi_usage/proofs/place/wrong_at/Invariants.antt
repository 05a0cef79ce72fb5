use Rattle.std.proofs.Common.{◌≡◌, length}
use Rattle.zi_usage.specs.Places.{wrong_at}
use Rattle.zi_usage.specs.declared.place.Place.TheVariants as place
use Rattle.zi_usage.proofs.place.wrong_at.Given as goal

abbrev pub invariant-loop-word : goal.invariant-loop-word
invariant-loop-word l = wrong_at l.place l.left l.count ≡ wrong_at place.Command l.words l.index

abbrev pub decreases-loop-word : goal.decreases-loop-word
decreases-loop-word l = length l.left
