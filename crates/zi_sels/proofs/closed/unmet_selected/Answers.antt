use Rattle.std.proofs.Common.{refl, sym, ◌∙◌}
use Rattle.std.specs.Prelude.{option_copied}
use Rattle.zi_elements.specs.Forest.{element_view}
use Rattle.zi_sels.proofs.ClosedLaws.{in_selection, none_selected, moved}
use Rattle.zi_sels.proofs.closed.unmet_selected.Goals as goal

pub returns-then-not-branch : goal.returns-then-not-branch
returns-then-not-branch c = none_selected _ (element_view c.args.e.now) (sym c.in_ok-counts_as.ensures ∙ c.if-not-branch.true)

pub returns : goal.returns
returns c =
    moved c.unmet_in.result option_copied _ _
    (in_selection c.args.selected.now (element_view c.args.e.now) _ (sym c.in_ok-counts_as.ensures ∙ c.if-not-branch.false) refl) c.unmet_in.ensures
