use Rattle.zi_choice.specs.Choice.{command_at}
use Rattle.zi_check.specs.Parts.{universe_of, picks_of}
use Rattle.zi_check.proofs.MeetLaws.{tells_some}
use Rattle.zi_check.proofs.meeting.has.Goals as goal

pub returns : goal.returns
returns c = tells_some c.command_at.result (command_at (universe_of c.args.on.now) (picks_of c.args.on.now) c.args.i c.args.name.now) c.is_some.result c.command_at.ensures c.is_some.ensures
