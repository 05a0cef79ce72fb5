use Rattle.std.proofs.Common.{List, Bor, refl, ap, sym, ◌∙◌}
use Rattle.std.specs.Prelude.{option_copied}
use Rattle.std.specs.List.{flat_map}
use Rattle.zi_elements.specs.declared.element.Element.{Element}
use Rattle.zi_elements.specs.Forest.{elements, element_view}
use Rattle.zi_reading.specs.Views.{views}
use Rattle.zi_sels.specs.Refused.{asking_at}
use Rattle.zi_sels.proofs.ClosedLaws.{part_passed, part_found, parts_end, one_at, all_known, at_step}
use Rattle.zi_sels.proofs.closed.unmet_in.Goals as goal

pub loop-part-init : goal.loop-part-init
loop-part-init c = refl

pub loop-part-preserved : goal.loop-part-preserved
loop-part-preserved c =
    part_passed c.args.selected.now (flat_map asking_at) c.as_slice-part-items.result.now c.loop-part.part-index c.part-item.result _ _ at_step
    c.loop-part-test.true c.part-item.is (c.in_ok-interface.ensures ∙ sym (one_at c.args.selected.now (element_view c.part-item.result.now))) (ap option_copied c.in_default.is) c.loop-part.invariant

pub returns-in-Some : goal.returns-in-Some
returns-in-Some c =
    all_known c.args.selected.now (flat_map asking_at) _ (views c.as_slice-part-items.result.now) (elements (element_view c.args.e.now).inside)
    (ap (λ (v : List (Bor Element)). views v) c.as_slice-part-items.ensures.value ∙ c.in_ok-inside.ensures)
    (part_found c.args.selected.now (flat_map asking_at) c.as_slice-part-items.result.now c.loop-part.part-index c.part-item.result _ _ c.in-Some.interface.now at_step
    c.loop-part-test.true c.part-item.is (c.in_ok-interface.ensures ∙ sym (one_at c.args.selected.now (element_view c.part-item.result.now))) (ap option_copied c.in-Some.is) c.loop-part.invariant)

pub returns : goal.returns
returns c =
    all_known c.args.selected.now (flat_map asking_at) _ (views c.as_slice-part-items.result.now) (elements (element_view c.args.e.now).inside)
    (ap (λ (v : List (Bor Element)). views v) c.as_slice-part-items.ensures.value ∙ c.in_ok-inside.ensures)
    (parts_end c.args.selected.now (flat_map asking_at) c.as_slice-part-items.result.now c.loop-part.part-index _ refl c.loop-part-test.false c.loop-part.invariant)
