use Rattle.zi_choice.proofs.ThereLaws.{walk_there}
use Rattle.zi_choice.proofs.laws.walk_is_there.Goals as goal

pub returns : goal.returns
returns c = walk_there
