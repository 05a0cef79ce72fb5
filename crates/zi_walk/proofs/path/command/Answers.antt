use Rattle.std.proofs.Common.{◌≡◌, ◌∙◌, ap, sym, Some}
use Rattle.std.specs.Prelude.{option_copied}
use Rattle.zi_choice.specs.Choice.{candidate_at}
use Rattle.zi_walk.proofs.StepLaws.{lacks_command, has_command}
use Rattle.zi_walk.proofs.path.command.Goals as goal

pub returns-in_err-place : goal.returns-in_err-place
returns-in_err-place c = ap option_copied c.from_residual.ensures ∙ sym (lacks_command c.args.names.now c.args.i c.args.pick c.args.name.now c.in_err-place.ensures)

pub returns-in_err-command : goal.returns-in_err-command
returns-in_err-command c =
    let n = c.in_ok-place.place in
    let k : Some c.in_ok-k.k.now ≡ candidate_at c.args.names.now c.args.i c.args.pick = c.in_ok-k.ensures in
    ap option_copied c.from_residual-in_err-command.ensures ∙ c.in_err-command.ensures ∙ has_command c.args.names.now c.args.i c.args.pick n c.in_ok-k.k.now c.args.name.now c.in_ok-place.ensures (sym k)

pub returns : goal.returns
returns c =
    let n = c.in_ok-place.place in
    let k : Some c.in_ok-k.k.now ≡ candidate_at c.args.names.now c.args.i c.args.pick = c.in_ok-k.ensures in
    ap (λ m. Some m) c.as_ref.ensures ∙ c.in_ok-command.ensures ∙ has_command c.args.names.now c.args.i c.args.pick n c.in_ok-k.k.now c.args.name.now c.in_ok-place.ensures (sym k)
