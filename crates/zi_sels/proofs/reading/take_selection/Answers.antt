use Rattle.std.proofs.Common.{refl, sym, ◌∙◌}
use Rattle.std.specs.Prelude.{codes}
use Rattle.zi_elements.specs.Forest.{element_view}
use Rattle.zi_feed.specs.Means.{counts_as}
use Rattle.zi_sels.specs.Read.{selection_of}
use Rattle.zi_sels.specs.Refused.{selection_fault}
use Rattle.zi_sels.proofs.NoteLaws.{note_taken, not_taken}
use Rattle.zi_sels.proofs.reading.take_selection.Goals as goal

pub returns-then-not-branch : goal.returns-then-not-branch
returns-then-not-branch c =
    not_taken selection_fault selection_of (counts_as (codes "selection")) (element_view c.args.e.now) _ _ _ _ (sym c.in_ok-counts_as.ensures ∙ c.if-not-branch.true) refl refl

pub returns : goal.returns
returns c =
    note_taken selection_fault selection_of (counts_as (codes "selection")) (element_view c.args.e.now) c.selection_of.result _ _ _ _ c.note.result
    (sym c.in_ok-counts_as.ensures ∙ c.if-not-branch.false) c.selection_of.ensures c.note.ensures
