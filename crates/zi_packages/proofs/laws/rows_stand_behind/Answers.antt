use Rattle.zi_packages.proofs.RowLaws.{stand_behind}
use Rattle.zi_packages.proofs.laws.rows_stand_behind.Goals as goal

pub returns : goal.returns
returns c = stand_behind
