use Rattle.zi_purge.proofs.StoreLemmas.{step_keeps}
use Rattle.zi_purge.proofs.laws.step_keeps.Goals as goal

-- src/laws.rt
pub returns : goal.returns
returns c = step_keeps
