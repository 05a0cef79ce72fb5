use Rattle.std.proofs.Common.{refl, ◌+◌}
use Rattle.zi_proof.proofs.Shown.{fresh_marks}
use Rattle.zi_proof.proofs.marks.Marks.with_variables.Goals as goal

pub returns : goal.returns
returns c = fresh_marks _ c.args.variables (c.args.variables + 1) c.in_ok-cells.ensures refl
