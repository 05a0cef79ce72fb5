use Rattle.zi_refused.proofs.RefusedLaws.{none_lost}
use Rattle.zi_refused.proofs.laws.none_is_lost.Goals as goal

pub returns : goal.returns
returns c = none_lost
