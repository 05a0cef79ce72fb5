use Rattle.std.proofs.Common.{refl, sym, ◌∙◌}
use Rattle.std.specs.Prelude.{codes}
use Rattle.zi_elements.specs.Forest.{element_view}
use Rattle.zi_feed.specs.Feeds.{part_fault}
use Rattle.zi_parts.specs.Digests.{said_digests}
use Rattle.zi_feed.specs.Means.{counts_as}
use Rattle.zi_sels.proofs.NoteLaws.{note_taken, not_taken}
use Rattle.zi_sels.proofs.parts.take_digests.Goals as goal

pub returns-then-not-branch : goal.returns-then-not-branch
returns-then-not-branch c =
    not_taken part_fault said_digests (counts_as (codes "manifest-digest")) (element_view c.args.e.now) _ _ _ _ (sym c.in_ok-counts_as.ensures ∙ c.if-not-branch.true) refl refl

pub returns : goal.returns
returns c =
    note_taken part_fault said_digests (counts_as (codes "manifest-digest")) (element_view c.args.e.now) c.digests_of.result _ _ _ _ c.note.result
    (sym c.in_ok-counts_as.ensures ∙ c.if-not-branch.false) c.digests_of.ensures c.note.ensures
