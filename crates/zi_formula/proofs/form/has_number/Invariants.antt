use Rattle.std.proofs.Common.{◌≡◌, drop}
use Rattle.zi_formula.specs.Form.{has_variable}
use Rattle.zi_formula.proofs.form.has_number.Given as goal

abbrev pub invariant-loop-y : goal.invariant-loop-y
invariant-loop-y l = has_variable (drop l.y-index l.variables) l.x ≡ has_variable l.variables l.x
