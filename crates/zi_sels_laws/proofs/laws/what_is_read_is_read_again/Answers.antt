use Rattle.zi_sels_laws.proofs.ReadBackLaws.{read_again}
use Rattle.zi_sels_laws.proofs.laws.what_is_read_is_read_again.Goals as goal

pub returns : goal.returns
returns c = read_again c.what_is_written_is_read.ensures
