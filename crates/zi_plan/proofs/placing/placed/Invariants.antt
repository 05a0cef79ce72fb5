use Rattle.zi_plan.proofs.PlacedLaws.{IsPlacedSoFar}
use Rattle.zi_plan.proofs.placing.placed.Given as goal

abbrev pub invariant-loop-place : goal.invariant-loop-place
invariant-loop-place l = IsPlacedSoFar l.items l.folders l.place l.placed.items
