use Rattle.zi_manifest.proofs.Listed.{written_is_listed}
use Rattle.zi_manifest.proofs.laws.written_is_listed.Goals as goal

pub returns : goal.returns
returns c = written_is_listed
