use Rattle.std.proofs.Common.{sym, ap, ◌∙◌}
use Rattle.std.specs.Prelude.{option_copied}
use Rattle.zi_check.specs.Parts.{universe_of, picks_of}
use Rattle.zi_check.proofs.MeetLaws.{no_command_at}
use Rattle.zi_check.proofs.meeting.command_at.Goals as goal

pub returns-in-None : goal.returns-in-None
returns-in-None c = no_command_at (universe_of c.args.on.now) (picks_of c.args.on.now) c.args.i c.args.name.now (sym c.chosen.ensures ∙ ap option_copied c.in-None.is)
