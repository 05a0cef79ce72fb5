use Rattle.std.proofs.Common.{length}
use Rattle.zi_formula.specs.Form.{OnceVars}
use Rattle.zi_formula.proofs.form.group_is_once.Given as goal

abbrev pub invariant-loop-rest : goal.invariant-loop-rest
invariant-loop-rest l = (OnceVars l.rest → OnceVars l.group) × (OnceVars l.group → OnceVars l.rest)

abbrev pub decreases-loop-rest : goal.decreases-loop-rest
decreases-loop-rest l = length l.rest
