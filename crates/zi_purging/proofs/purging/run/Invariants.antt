use Rattle.std.proofs.Common.{◌≡◌, false}
use Rattle.zi_purge.specs.Progress.{has_ended, calls_left}
use Rattle.zi_purge.specs.Stepping.{standing}
use Rattle.zi_purging.proofs.RunLemmas.{Ran}
use Rattle.zi_purging.proofs.purging.run.Given as goal

abbrev pub invariant-loop-step : goal.invariant-loop-step
invariant-loop-step g l = record {
  ran : Ran (standing l.initial.purge) (g.K.Shelf.seen l.initial.shelf) (standing l.purge) (g.K.Shelf.seen l.shelf);
  goes_on : has_ended (standing l.purge).phase ≡ false;
}

abbrev pub decreases-loop-step : goal.decreases-loop-step
decreases-loop-step g l = calls_left (standing l.purge)
