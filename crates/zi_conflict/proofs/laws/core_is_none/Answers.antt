use Rattle.zi_conflict.proofs.CoreLaws.{core_is_none as law}
use Rattle.zi_conflict.proofs.laws.core_is_none.Goals as goal

pub returns : goal.returns
returns c = law
