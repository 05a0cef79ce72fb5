use Rattle.std.proofs.Common.{List, Bor, ap, ◌∙◌}
use Rattle.zi_elements.specs.declared.element.Element.{Element}
use Rattle.zi_reading.specs.Views.{views}
use Rattle.zi_sels.specs.Refused.{clear_among}
use Rattle.zi_sels.proofs.NoteLaws.{second_is}
use Rattle.zi_sels.proofs.own.second_command.Goals as goal

pub returns : goal.returns
returns c =
    second_is _ _ c.least_shared.result
    (ap (λ (v : List (Bor Element)). views v) c.as_slice-2.ensures.value
    ∙ (c.in_ok-commands.ensures
    ∙ ap clear_among (ap (λ (v : List (Bor Element)). views v) c.as_slice.ensures.value ∙ c.in_ok-inside.ensures)))
    c.least_shared.ensures
