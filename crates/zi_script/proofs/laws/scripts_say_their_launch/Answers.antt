use Rattle.zi_script.proofs.ScriptLaws.{say_their_launch}
use Rattle.zi_script.proofs.laws.scripts_say_their_launch.Goals as goal

pub returns : goal.returns
returns c = say_their_launch
