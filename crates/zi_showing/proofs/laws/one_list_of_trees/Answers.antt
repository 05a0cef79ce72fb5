use Rattle.zi_showing.proofs.OneLaws.{one_list}
use Rattle.zi_showing.proofs.laws.one_list_of_trees.Goals as goal

pub returns : goal.returns
returns c = λ sels a b are too. one_list sels a b are too
