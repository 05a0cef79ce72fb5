use Rattle.zi_sels_laws.proofs.ChosenLaws.{chosen_read}
use Rattle.zi_sels_laws.proofs.laws.what_is_chosen_is_read_back.Goals as goal

pub returns : goal.returns
returns c = chosen_read c.what_is_written_is_read.ensures
