use Rattle.std.proofs.Common.{◌∙◌, ap, Some, None}
use Rattle.std.specs.Prelude.{option_copied}
use Rattle.zi_choice.specs.Tasks.{universe_of, picks_of}
use Rattle.zi_choice.proofs.TaskLaws.{its_place, no_command, command_there}
use Rattle.zi_choice.proofs.walking.command_of.Goals as goal

pub returns-in_err-place : goal.returns-in_err-place
returns-in_err-place c =
    ap option_copied c.from_residual-in_err-place.ensures ∙ no_command c.args.k.now c.args.name.now
    (its_place (universe_of c.args.on.now) c.args.on.now.names.now (picks_of c.args.on.now) c.args.i c.in_ok-candidate.candidate c.args.k.now c.args.name.now None c.requires.named c.requires.chosen c.in_ok-candidate.ensures c.in_err-place.ensures)

pub returns-in_err-command : goal.returns-in_err-command
returns-in_err-command c =
    ap option_copied c.from_residual-in_err-command.ensures ∙ c.in_err-command.ensures ∙ command_there c.args.k.now c.args.name.now c.in_ok-place.place
    (its_place (universe_of c.args.on.now) c.args.on.now.names.now (picks_of c.args.on.now) c.args.i c.in_ok-candidate.candidate c.args.k.now c.args.name.now (Some c.in_ok-place.place) c.requires.named c.requires.chosen c.in_ok-candidate.ensures c.in_ok-place.ensures)

pub returns : goal.returns
returns c =
    ap (λ m. Some m) c.as_ref.ensures ∙ c.in_ok-command.ensures ∙ command_there c.args.k.now c.args.name.now c.in_ok-place.place
    (its_place (universe_of c.args.on.now) c.args.on.now.names.now (picks_of c.args.on.now) c.args.i c.in_ok-candidate.candidate c.args.k.now c.args.name.now (Some c.in_ok-place.place) c.requires.named c.requires.chosen c.in_ok-candidate.ensures c.in_ok-place.ensures)
