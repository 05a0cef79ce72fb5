use Rattle.std.proofs.Common.{◌∙◌, sym}
use Rattle.std.proofs.lemmas.Bool.{false≢true}
use Rattle.zi_formula.specs.Lent.{shows}
use Rattle.zi_formula.proofs.Walks.{once_next, once_first}
use Rattle.zi_formula.proofs.form.all_are_once.Goals as goal

pub returns-then-not-is_once : goal.returns-then-not-is_once
returns-then-not-is_once c = (
  λ t. absurd (false≢true t),
  λ o. sym c.if-not-is_once.true ∙ c.is_once.ensures.1 (once_first c.args.constraints.now c.loop-i.i (shows c.at.result) c.at.ensures (c.loop-i.invariant.1 o)),
)

pub loop-i-preserved : goal.loop-i-preserved
loop-i-preserved c =
    once_next c.args.constraints.now c.loop-i.i (shows c.at.result) c.at.ensures (c.is_once.ensures.0 c.if-not-is_once.false) c.loop-i.invariant
