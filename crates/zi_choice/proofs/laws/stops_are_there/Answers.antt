use Rattle.zi_choice.proofs.StopLaws.{stops_there}
use Rattle.zi_choice.proofs.laws.stops_are_there.Goals as goal

pub returns : goal.returns
returns c = stops_there
