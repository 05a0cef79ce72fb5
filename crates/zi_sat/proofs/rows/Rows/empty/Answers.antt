use Rattle.zi_sat.proofs.RowLaws.{rows_empty}
use Rattle.zi_sat.proofs.rows.Rows.empty.Goals as goal
