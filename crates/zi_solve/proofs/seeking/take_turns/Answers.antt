use Rattle.std.proofs.Common.{◌∙◌}
use Rattle.zi_solve.proofs.seeking.take_turns.Goals as goal

pub loop-round-preserved : goal.loop-round-preserved
loop-round-preserved c = record {
  same = c.turn.ensures.formula ∙ c.loop-round.invariant.same;
  between = rw c.in_default.is at c.in_ok-found.ensures.turn;
}

pub returns-in-Some-clause-end : goal.returns-in-Some-clause-end
returns-in-Some-clause-end c = rw c.in-Some.is at c.in_ok-found.ensures.turn
