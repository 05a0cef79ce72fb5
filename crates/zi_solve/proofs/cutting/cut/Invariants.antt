use Rattle.std.proofs.Common.{◌≡◌, ◌<◌, ℕ, None, cond, map, length}
use Rattle.zi_choice.specs.Choice.{pick}
use Rattle.zi_choice.specs.Traces.{as_place}
use Rattle.zi_numbering.specs.Listing.{comes_to}
use Rattle.zi_solve.proofs.cutting.cut.Given as goal

abbrev pub invariant-loop-i : goal.invariant-loop-i
invariant-loop-i l = record {
  each : length l.cut ≡ l.i;
  are : (j : ℕ) → j < l.i → pick l.cut j ≡ cond (comes_to (map as_place l.places) j) (pick l.picks j) None;
}
