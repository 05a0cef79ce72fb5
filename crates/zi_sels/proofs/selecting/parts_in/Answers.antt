use Rattle.std.proofs.Common.{List, Bor, ap, ◌∙◌}
use Rattle.zi_elements.specs.declared.element.Element.{Element}
use Rattle.zi_elements.specs.Forest.{element_view}
use Rattle.zi_reading.specs.Views.{views}
use Rattle.zi_sels.proofs.SelectionLaws.{four_among}
use Rattle.zi_sels.proofs.selecting.parts_in.Goals as goal

pub digests_in-requires : goal.digests_in-requires
digests_in-requires c = ap (λ (v : List (Bor Element)). views v) c.as_slice-inside.ensures.value ∙ c.in_ok-found.ensures

pub returns : goal.returns
returns c =
    four_among (element_view c.args.e.now) (views c.as_slice-inside.result.now) _ _ _ _ _ _
    (ap (λ (v : List (Bor Element)). views v) c.as_slice-inside.ensures.value ∙ c.in_ok-found.ensures)
    c.in_ok-bindings.ensures c.in_ok-deps.ensures c.in_ok-commands.ensures c.in_ok-digests.ensures
