use Rattle.std.proofs.Common.{◌≡◌, drop, cond}
use Rattle.zi_formula.specs.Truth.{none_true, group_true, assigned}
use Rattle.zi_formula.proofs.truth.group_is_true.Given as goal

abbrev pub invariant-loop-x : goal.invariant-loop-x
invariant-loop-x l =
    cond l.found (none_true (assigned l.values) (drop l.x-index l.variables)) (group_true (assigned l.values) (drop l.x-index l.variables)) ≡ group_true (assigned l.values) l.variables
