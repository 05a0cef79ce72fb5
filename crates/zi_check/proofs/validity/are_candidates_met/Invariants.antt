use Rattle.zi_check.specs.Parts.{Below, IsCandidateMet}
use Rattle.zi_check.proofs.validity.are_candidates_met.Given as goal

abbrev pub invariant-loop-i : goal.invariant-loop-i
invariant-loop-i l = Below l.i (IsCandidateMet l.on)
