use Rattle.zi_due.proofs.NamesLemmas.{names_are_one}
use Rattle.zi_due.proofs.StoringEnds.{list_ends, manifest_ends, verify_ends}
use Rattle.zi_due.proofs.laws.names_are_one.Goals as goal

pub returns : goal.returns
returns c = names_are_one
