use Rattle.std.proofs.Common.{◌∙◌, ap, Some, None}
use Rattle.std.specs.Prelude.{option_copied}
use Rattle.zi_choice.proofs.TaskLaws.{no_command, command_there}
use Rattle.zi_why.specs.Known.{universe_of}
use Rattle.zi_why.proofs.SuitLaws.{place_of}
use Rattle.zi_why.proofs.setting.command_of.Goals as goal

pub returns-in_err-place : goal.returns-in_err-place
returns-in_err-place c =
    ap option_copied c.from_residual.ensures ∙ no_command c.args.p.now.is.now c.args.name.now
    (place_of (universe_of c.args.on.now) c.args.p.now.interface c.args.p.now.candidate c.args.p.now.is.now c.args.name.now None c.requires.there c.in_err-place.ensures)

pub returns-in_err-command : goal.returns-in_err-command
returns-in_err-command c =
    ap option_copied c.from_residual-in_err-command.ensures ∙ c.in_err-command.ensures ∙ command_there c.args.p.now.is.now c.args.name.now c.in_ok-place.place
    (place_of (universe_of c.args.on.now) c.args.p.now.interface c.args.p.now.candidate c.args.p.now.is.now c.args.name.now (Some c.in_ok-place.place) c.requires.there c.in_ok-place.ensures)

pub returns : goal.returns
returns c =
    ap (λ m. Some m) c.as_ref.ensures ∙ c.in_ok-command.ensures ∙ command_there c.args.p.now.is.now c.args.name.now c.in_ok-place.place
    (place_of (universe_of c.args.on.now) c.args.p.now.interface c.args.p.now.candidate c.args.p.now.is.now c.args.name.now (Some c.in_ok-place.place) c.requires.there c.in_ok-place.ensures)
