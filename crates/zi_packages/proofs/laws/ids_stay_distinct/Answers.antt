use Rattle.zi_packages.proofs.RowLaws.{stay_distinct}
use Rattle.zi_packages.proofs.laws.ids_stay_distinct.Goals as goal

pub returns : goal.returns
returns c = stay_distinct
