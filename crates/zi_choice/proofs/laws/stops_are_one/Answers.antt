use Rattle.zi_choice.proofs.StopLaws.{stops_one}
use Rattle.zi_choice.proofs.laws.stops_are_one.Goals as goal

pub returns : goal.returns
returns c = stops_one
