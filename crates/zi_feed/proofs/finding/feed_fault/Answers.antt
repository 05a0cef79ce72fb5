use Rattle.std.proofs.Common.{ap, sym, ◌∙◌, map}
use Rattle.zi_elements.specs.declared.element.Element.{Element}
use Rattle.zi_elements.specs.Forest.{element_view}
use Rattle.zi_faults.specs.Faults.{lesser_of, least, root_faults}
use Rattle.zi_faults.specs.Carrying.{seen_view}
use Rattle.zi_feed.proofs.FindingLaws.{whole_fault}
use Rattle.zi_feed.proofs.finding.feed_fault.Goals as goal

pub returns : goal.returns
returns c =
    c.lesser_of-2.ensures
    ∙ (ap (lesser_of c.in_ok-own.own) c.lesser_of.ensures
    ∙ whole_fault _ _ (map seen_view c.args.seen.now) _ _ _ (sym c.is.ensures ∙ c.if-not-is.false) c.requires.seen
    (c.in_ok-own.ensures ∙ ap (λ (d : Element). least (root_faults c.args.uri.now (element_view d))) c.element-e.ensures) c.in_ok-inner.ensures c.in_ok-shared.ensures)
