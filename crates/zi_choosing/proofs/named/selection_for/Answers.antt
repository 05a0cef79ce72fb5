use Rattle.std.proofs.Common.{ap, ◌∙◌}
use Rattle.std.specs.Prelude.{slice_get, option_and_then, option_copied}
use Rattle.zi_choice.proofs.TaskLaws.{lent_item}
use Rattle.zi_choosing.proofs.NamedLemmas.{find_there}
use Rattle.zi_choosing.proofs.named.selection_for.Goals as goal

pub returns-in_err-place : goal.returns-in_err-place
returns-in_err-place c =
    ap option_copied c.from_residual.ensures ∙ (ap (option_and_then (slice_get c.args.items.now)) c.in_err-place.ensures ∙ find_there _ c.args.items.now)

pub returns : goal.returns
returns c =
    lent_item _ c.get.result c.args.items.now c.in_ok-place.place c.get.ensures.lookup.1 c.get.ensures.lookup.3
    ∙ (ap (option_and_then (slice_get c.args.items.now)) c.in_ok-place.ensures ∙ find_there _ c.args.items.now)
