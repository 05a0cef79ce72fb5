use Rattle.zi_session.proofs.CountingLemmas.{few_calls}
use Rattle.zi_session.proofs.works_laws.few_calls.Goals as goal

pub returns : goal.returns
returns c = few_calls
