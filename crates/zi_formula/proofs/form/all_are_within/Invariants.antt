use Rattle.std.proofs.Common.{take}
use Rattle.std.specs.List.{All}
use Rattle.zi_formula.specs.Form.{ConstraintWithin}
use Rattle.zi_formula.proofs.form.all_are_within.Given as goal

abbrev pub invariant-loop-i : goal.invariant-loop-i
invariant-loop-i l = All (ConstraintWithin l.variables) (take l.i l.constraints)
