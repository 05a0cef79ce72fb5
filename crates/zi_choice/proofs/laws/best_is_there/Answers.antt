use Rattle.zi_choice.proofs.ThereIsBest.{best_there}
use Rattle.zi_choice.proofs.laws.best_is_there.Goals as goal

pub returns : goal.returns
returns c = best_there
