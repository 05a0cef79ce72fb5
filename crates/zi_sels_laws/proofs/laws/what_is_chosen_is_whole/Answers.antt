use Rattle.zi_sels_laws.proofs.WholeLaws.{chosen_whole}
use Rattle.zi_sels_laws.proofs.laws.what_is_chosen_is_whole.Goals as goal

pub returns : goal.returns
returns c = chosen_whole
