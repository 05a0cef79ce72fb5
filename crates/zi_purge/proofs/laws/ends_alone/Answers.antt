use Rattle.zi_purge.proofs.AloneLemmas.{ends_alone}
use Rattle.zi_purge.proofs.laws.ends_alone.Goals as goal

-- src/laws.rt
pub returns : goal.returns
returns c = ends_alone
