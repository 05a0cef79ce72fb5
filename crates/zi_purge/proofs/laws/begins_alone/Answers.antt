use Rattle.zi_purge.proofs.AloneLemmas.{begins_alone}
use Rattle.zi_purge.proofs.laws.begins_alone.Goals as goal

-- src/laws.rt
pub returns : goal.returns
returns c = begins_alone
