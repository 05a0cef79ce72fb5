use Rattle.std.proofs.Common.{◌∙◌, sym}
use Rattle.zi_formula.specs.Truth.{assigned}
use Rattle.zi_formula.specs.Lent.{shows}
use Rattle.zi_formula.proofs.Walks.{true_next, true_fails}
use Rattle.zi_formula.proofs.truth.models.Goals as goal

pub returns-then-not-constraint_is_true : goal.returns-then-not-constraint_is_true
returns-then-not-constraint_is_true c =
    true_fails (assigned c.args.values.now) c.args.f.now.constraints c.loop-i.i (shows c.at.result) c.at.ensures (sym c.constraint_is_true.ensures ∙ c.if-not-constraint_is_true.true) c.loop-i.invariant

pub loop-i-preserved : goal.loop-i-preserved
loop-i-preserved c =
    true_next (assigned c.args.values.now) c.args.f.now.constraints c.loop-i.i (shows c.at.result) c.at.ensures (sym c.constraint_is_true.ensures ∙ c.if-not-constraint_is_true.false) c.loop-i.invariant
