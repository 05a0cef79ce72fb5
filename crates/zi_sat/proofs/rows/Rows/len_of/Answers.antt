use Rattle.zi_sat.proofs.RowLaws.{rows_row}
use Rattle.zi_sat.proofs.rows.Rows.len_of.Goals as goal
