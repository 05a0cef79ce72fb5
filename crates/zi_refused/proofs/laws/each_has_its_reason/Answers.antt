use Rattle.zi_refused.proofs.RefusedLaws.{has_reason}
use Rattle.zi_refused.proofs.laws.each_has_its_reason.Goals as goal

pub returns : goal.returns
returns c = has_reason
