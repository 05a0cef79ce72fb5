use Rattle.zi_choice.proofs.ApartLaws.{one_earlier}
use Rattle.zi_choice.proofs.laws.one_ranks_earlier.Goals as goal

pub returns : goal.returns
returns c = one_earlier
