use Rattle.zi_bind.proofs.NameLaws.{same_faults}
use Rattle.zi_bind.proofs.laws.faults_by_names.Goals as goal

pub returns : goal.returns
returns c = same_faults
