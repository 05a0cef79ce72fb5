use Rattle.zi_choice.proofs.BestLaws.{best_one}
use Rattle.zi_choice.proofs.laws.best_is_one.Goals as goal

pub returns : goal.returns
returns c = best_one
