use Rattle.zi_purge.proofs.CountingLemmas.{crowds}
use Rattle.zi_purge.proofs.laws.crowded.Goals as goal

-- src/laws.rt
pub returns : goal.returns
returns c = crowds
