use Rattle.std.proofs.Common.{◌≡◌, drop}
use Rattle.zi_formula.specs.Truth.{clause_true, assigned}
use Rattle.zi_formula.proofs.truth.clause_is_true.Given as goal

abbrev pub invariant-loop-l : goal.invariant-loop-l
invariant-loop-l l =
    clause_true (assigned l.values) (drop l.l-index l.lits) ≡ clause_true (assigned l.values) l.lits
