use Rattle.std.proofs.Common.{◌≡◌}
use Rattle.zi_choice.specs.Vars.{before, own_candidates}
use Rattle.zi_choice.proofs.numbering.variable.Given as goal

abbrev pub invariant-loop-x : goal.invariant-loop-x
invariant-loop-x l = l.before ≡ before own_candidates l.u l.x-index
