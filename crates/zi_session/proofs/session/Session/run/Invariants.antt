use Rattle.std.proofs.Common.{◌≡◌, ◌+◌, ◌-◌, false}
use Rattle.zi_session.specs.Phases.{is_over}
use Rattle.zi_session.specs.Standing.{standing, left}
use Rattle.zi_session.proofs.RunLemmas.{Ran}
use Rattle.zi_session.proofs.session.Session.run.Given as goal

abbrev pub invariant-loop-step : goal.invariant-loop-step
invariant-loop-step g l = record {
  ran : Ran (standing l.initial.self) (g.K.Shelf.seen l.initial.k) (standing l.self) (g.K.Shelf.seen l.k);
  goes_on : is_over l.self.phase ≡ false;
}

abbrev pub decreases-loop-step : goal.decreases-loop-step
decreases-loop-step g l = (10000 - l.self.number) + left l.self
