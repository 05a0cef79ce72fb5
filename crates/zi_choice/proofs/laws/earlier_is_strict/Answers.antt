use Rattle.zi_choice.proofs.OrderLaws.{earlier_strict}
use Rattle.zi_choice.proofs.laws.earlier_is_strict.Goals as goal

pub returns : goal.returns
returns c = earlier_strict
