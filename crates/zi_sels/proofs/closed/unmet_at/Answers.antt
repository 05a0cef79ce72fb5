use Rattle.std.proofs.Common.{refl, sym, ◌∙◌}
use Rattle.std.specs.Prelude.{option_copied}
use Rattle.zi_elements.specs.Forest.{element_view}
use Rattle.zi_sels.proofs.ClosedLaws.{at_command, at_asking, at_neither, moved}
use Rattle.zi_sels.proofs.closed.unmet_at.Goals as goal

pub returns-then-branch : goal.returns-then-branch
returns-then-branch c =
    moved c.unmet_within.result option_copied _ _
    (at_command c.args.selected.now (element_view c.args.e.now) _ (sym c.in_ok-counts_as.ensures ∙ c.if-branch.true) refl) c.unmet_within.ensures

pub returns-then-branch-2 : goal.returns-then-branch-2
returns-then-branch-2 c =
    at_asking _ (element_view c.args.e.now) _ (sym c.in_ok-counts_as.ensures ∙ c.if-branch.false) (sym c.in_ok-asks.ensures ∙ c.if-branch-2.true) c.unmet.ensures

pub returns : goal.returns
returns c = at_neither _ (element_view c.args.e.now) (sym c.in_ok-counts_as.ensures ∙ c.if-branch.false) (sym c.in_ok-asks.ensures ∙ c.if-branch-2.false)
