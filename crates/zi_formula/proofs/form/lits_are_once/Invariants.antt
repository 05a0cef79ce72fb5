use Rattle.std.proofs.Common.{length}
use Rattle.zi_formula.specs.Form.{Once}
use Rattle.zi_formula.proofs.form.lits_are_once.Given as goal

abbrev pub invariant-loop-rest : goal.invariant-loop-rest
invariant-loop-rest l = (Once l.rest → Once l.lits) × (Once l.lits → Once l.rest)

abbrev pub decreases-loop-rest : goal.decreases-loop-rest
decreases-loop-rest l = length l.rest
