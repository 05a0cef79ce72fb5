use Rattle.std.proofs.Common.{◌≡◌, drop}
use Rattle.zi_formula.specs.Truth.{all_true, assigned}
use Rattle.zi_formula.proofs.truth.models.Given as goal

abbrev pub invariant-loop-i : goal.invariant-loop-i
invariant-loop-i l =
    all_true (assigned l.values) (drop l.i l.f.constraints) ≡ all_true (assigned l.values) l.f.constraints
