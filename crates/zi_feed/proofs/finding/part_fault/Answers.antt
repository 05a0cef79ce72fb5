use Rattle.std.proofs.Common.{List, ap, sym, subst, ◌∙◌, map}
use Rattle.std.specs.List.{flat_map}
use Rattle.zi_elements.specs.declared.element.Element.{Element}
use Rattle.zi_elements.specs.Forest.{element_view}
use Rattle.zi_reading.specs.Ways.{AsWritten}
use Rattle.zi_reading.specs.Reading.{is_unclear}
use Rattle.zi_faults.specs.Faults.{least}
use Rattle.zi_faults.specs.declared.carrying.Seen.{Seen}
use Rattle.zi_faults.specs.Carrying.{faults_seen, seen_view, said_by, AreChecked}
use Rattle.zi_faults.specs.Said.{taken, unsaid}
use Rattle.zi_feed.proofs.FindingLaws.{closed_part, open_part}
use Rattle.zi_feed.proofs.finding.part_fault.Goals as goal

pub checked-requires : goal.checked-requires
checked-requires c = c.nothing.ensures.checked AsWritten

pub fault_with-requires : goal.fault_with-requires
fault_with-requires c = c.in_ok-said.ensures.checked

pub least_seen-requires : goal.least_seen-requires
least_seen-requires c =
    let P : List Seen → Type 0 = λ v. AreChecked AsWritten v in
    subst P (sym c.as_slice.ensures.value) c.in_ok-seen.ensures.checked

pub returns-then-branch : goal.returns-then-branch
returns-then-branch c =
    closed_part _ (said_by c.in_ok-said.said) _ (c.in_ok-said.ensures.said
    ∙ (ap (λ v. taken v (element_view c.element-e.result.now)) c.nothing.ensures.said ∙ ap (λ (d : Element). taken unsaid (element_view d)) c.element-e.ensures)) c.in_ok-own.ensures (ap (λ (d : Element). is_unclear (element_view d)) (sym c.element-e.ensures) ∙ (sym c.in_ok-is_unclear.ensures ∙ c.if-branch.true))

pub returns : goal.returns
returns c =
    c.lesser_of.ensures
    ∙ open_part _ (said_by c.in_ok-said.said) (map seen_view c.in_ok-seen.seen.items) _ _ (c.in_ok-said.ensures.said
    ∙ (ap (λ v. taken v (element_view c.element-e.result.now)) c.nothing.ensures.said ∙ ap (λ (d : Element). taken unsaid (element_view d)) c.element-e.ensures))
    c.in_ok-own.ensures (ap (λ (d : Element). is_unclear (element_view d)) (sym c.element-e.ensures) ∙ (sym c.in_ok-is_unclear.ensures ∙ c.if-branch.false)) c.in_ok-seen.ensures.seen
    (c.in_ok-inner.ensures ∙ ap (λ v. least (flat_map (faults_seen AsWritten) (map seen_view v))) c.as_slice.ensures.value)
