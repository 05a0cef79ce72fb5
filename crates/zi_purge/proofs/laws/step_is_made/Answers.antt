use Rattle.zi_purge.proofs.CountingLemmas.{step_is_made}
use Rattle.zi_purge.proofs.laws.step_is_made.Goals as goal

-- src/laws.rt
pub returns : goal.returns
returns c = step_is_made
