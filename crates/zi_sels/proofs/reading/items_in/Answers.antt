use Rattle.std.proofs.Common.{List, Bor, [], ap, ◌∙◌}
use Rattle.std.specs.Prelude.{codes}
use Rattle.zi_elements.specs.declared.element.Element.{Element}
use Rattle.zi_elements.specs.Forest.{elements, element_view}
use Rattle.zi_feed.specs.Means.{counts_as}
use Rattle.zi_reading.specs.Views.{views}
use Rattle.zi_sels.specs.Read.{selection_of}
use Rattle.zi_sels.specs.Refused.{selection_fault}
use Rattle.zi_sels.proofs.NoteLaws.{none_yet, next_read, all_read, read_among}
use Rattle.zi_sels.proofs.reading.items_in.Goals as goal

pub loop-e-init : goal.loop-e-init
loop-e-init c = none_yet selection_fault selection_of (counts_as (codes "selection")) c.as_slice-e-items.result.now _ _ c.new-items.ensures

pub loop-e-preserved : goal.loop-e-preserved
loop-e-preserved c =
    next_read selection_fault selection_of (counts_as (codes "selection")) c.as_slice-e-items.result.now c.loop-e.e-index c.e-item.result _ _ _ _ _ _
    c.loop-e-test.true c.e-item.is c.loop-e.invariant c.in_ok-take_selection.ensures

pub returns : goal.returns
returns c =
    read_among selection_fault selection_of (counts_as (codes "selection")) (views c.as_slice-e-items.result.now) (elements (element_view c.args.root.now).inside) [] _ _ _
    (ap (λ (v : List (Bor Element)). views v) c.as_slice-e-items.ensures.value ∙ c.in_ok-inside.ensures)
    (all_read selection_fault selection_of (counts_as (codes "selection")) c.as_slice-e-items.result.now c.loop-e.e-index _ _ _ _ c.loop-e-test.false c.loop-e.invariant)
