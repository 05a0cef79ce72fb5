use Rattle.zi_scripting.proofs.PlanLaws.{make_their_variables}
use Rattle.zi_scripting.proofs.laws.scripts_make_their_variables.Goals as goal

pub returns : goal.returns
returns c = make_their_variables
