use Rattle.std.proofs.Common.{drop}
use Rattle.zi_formula.specs.Form.{OnceAll}
use Rattle.zi_formula.proofs.form.all_are_once.Given as goal

abbrev pub invariant-loop-i : goal.invariant-loop-i
invariant-loop-i l =
    (OnceAll (drop l.i l.constraints) → OnceAll l.constraints) × (OnceAll l.constraints → OnceAll (drop l.i l.constraints))
