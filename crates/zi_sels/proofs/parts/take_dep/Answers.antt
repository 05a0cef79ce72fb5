use Rattle.std.proofs.Common.{refl, sym, ◌∙◌, None}
use Rattle.std.specs.Prelude.{codes}
use Rattle.zi_elements.specs.Forest.{element_view}
use Rattle.zi_reading.specs.Ways.{AsWritten}
use Rattle.zi_feed.specs.Feeds.{part_fault}
use Rattle.zi_parts.specs.Values.{dep_of}
use Rattle.zi_feed.specs.Means.{counts_as}
use Rattle.zi_sels.proofs.NoteLaws.{note_taken, not_taken}
use Rattle.zi_sels.proofs.parts.take_dep.Goals as goal

pub returns-then-not-branch : goal.returns-then-not-branch
returns-then-not-branch c =
    not_taken part_fault (dep_of AsWritten) (counts_as (codes "requires")) (element_view c.args.e.now) _ _ _ _ (sym c.in_ok-counts_as.ensures ∙ c.if-not-branch.true) refl refl

pub returns : goal.returns
returns c =
    note_taken part_fault (dep_of AsWritten) (counts_as (codes "requires")) (element_view c.args.e.now) c.dep_of.result _ _ _ _ c.note.result
    (sym c.in_ok-counts_as.ensures ∙ c.if-not-branch.false) c.dep_of.ensures c.note.ensures
