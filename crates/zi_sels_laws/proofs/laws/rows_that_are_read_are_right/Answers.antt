use Rattle.zi_sels_laws.proofs.ReadRowLaws.{read_right}
use Rattle.zi_sels_laws.proofs.laws.rows_that_are_read_are_right.Goals as goal

pub returns : goal.returns
returns c = read_right
