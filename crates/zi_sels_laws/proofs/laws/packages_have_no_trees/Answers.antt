use Rattle.zi_sels_laws.proofs.TreeLaws.{read_no_trees, chosen_no_trees}
use Rattle.zi_sels_laws.proofs.laws.packages_have_no_trees.Goals as goal

pub returns-clause-read : goal.returns-clause-read
returns-clause-read c = read_no_trees

pub returns-clause-chosen : goal.returns-clause-chosen
returns-clause-chosen c = chosen_no_trees
