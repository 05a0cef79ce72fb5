use Rattle.std.proofs.Common.{ap, ◌∙◌}
use Rattle.std.specs.Prelude.{option_and_then}
use Rattle.std.specs.List.{position_from}
use Rattle.zi_sels.specs.declared.types.Selection.{Selection}
use Rattle.zi_choosing.specs.Named.{is_named, named_in}
use Rattle.zi_choosing.proofs.named.named_by.Goals as goal

pub returns-in_err-x : goal.returns-in_err-x
returns-in_err-x c = c.from_residual.ensures ∙ ap (option_and_then (λ (x : Selection). named_in x c.args.interface.now)) c.in_err-x.ensures

pub returns-in_err-c : goal.returns-in_err-c
returns-in_err-c c =
    c.from_residual-in_err-c.ensures ∙ (c.in_err-c.ensures.is ∙ (ap (position_from (is_named c.in_ok-x.x.now) 0) c.as_slice.ensures
    ∙ ap (option_and_then (λ (x : Selection). named_in x c.args.interface.now)) c.in_ok-x.ensures))

pub returns : goal.returns
returns c =
    c.in_ok-c.ensures.is ∙ (ap (position_from (is_named c.in_ok-x.x.now) 0) c.as_slice.ensures
    ∙ ap (option_and_then (λ (x : Selection). named_in x c.args.interface.now)) c.in_ok-x.ensures)
