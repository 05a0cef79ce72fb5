use Rattle.std.proofs.Common.{◌≡◌}
use Rattle.zi_solve.specs.Turns.{IsBetween}
use Rattle.zi_solve.proofs.seeking.take_turns.Given as goal

abbrev pub invariant-loop-round : goal.invariant-loop-round
invariant-loop-round l = record {
  same : l.search.formula ≡ l.initial.search.formula;
  between : IsBetween l.u l.req l.budget l.search;
}
