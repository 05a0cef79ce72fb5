use Rattle.std.proofs.Common.{sym, ◌∙◌}
use Rattle.zi_elements.specs.Forest.{element_view}
use Rattle.zi_sels.proofs.ClosedLaws.{asked_within, none_within}
use Rattle.zi_sels.proofs.closed.unmet_asked.Goals as goal

pub returns-then-not-branch : goal.returns-then-not-branch
returns-then-not-branch c = none_within _ (element_view c.args.e.now) (sym c.in_ok-asks_within.ensures ∙ c.if-not-branch.true)

pub returns : goal.returns
returns c = asked_within _ (element_view c.args.e.now) _ (sym c.in_ok-asks_within.ensures ∙ c.if-not-branch.false) c.unmet.ensures
