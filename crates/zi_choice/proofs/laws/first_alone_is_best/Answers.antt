use Rattle.zi_choice.proofs.AloneLaws.{first_alone_best}
use Rattle.zi_choice.proofs.laws.first_alone_is_best.Goals as goal

pub returns : goal.returns
returns c = first_alone_best
