use Rattle.zi_packages.proofs.TextLaws.{table_is_one}
use Rattle.zi_packages.proofs.laws.table_is_one.Goals as goal

pub returns : goal.returns
returns c = table_is_one
