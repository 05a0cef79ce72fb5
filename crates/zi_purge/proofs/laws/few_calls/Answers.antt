use Rattle.zi_purge.proofs.CountingLemmas.{few_calls}
use Rattle.zi_purge.proofs.laws.few_calls.Goals as goal

-- src/laws.rt
pub returns : goal.returns
returns c = few_calls
