use Rattle.std.proofs.Common.{sym, ap, ◌∙◌}
use Rattle.std.specs.Prelude.{option_copied}
use Rattle.zi_choice.specs.Choice.{command_at, needs_of}
use Rattle.zi_choice.specs.Valid.{AreMet}
use Rattle.zi_check.specs.Parts.{universe_of, picks_of}
use Rattle.zi_check.proofs.MeetLaws.{tells_if, tells_if_none}
use Rattle.zi_check.proofs.meeting.is_use_met.Goals as goal

pub returns-in-None : goal.returns-in-None
returns-in-None c =
    tells_if_none (λ m. AreMet (universe_of c.args.on.now) (picks_of c.args.on.now) (needs_of m)) (command_at (universe_of c.args.on.now) (picks_of c.args.on.now) c.args.x.now.interface c.args.x.now.command) (sym c.command_at.ensures ∙ ap option_copied c.in-None.is)

pub returns-in-Some : goal.returns-in-Some
returns-in-Some c =
    tells_if (λ m. AreMet (universe_of c.args.on.now) (picks_of c.args.on.now) (needs_of m)) (command_at (universe_of c.args.on.now) (picks_of c.args.on.now) c.args.x.now.interface c.args.x.now.command) c.in-Some.m.now c.is_command_met.result (sym c.command_at.ensures ∙ ap option_copied c.in-Some.is) c.is_command_met.ensures
