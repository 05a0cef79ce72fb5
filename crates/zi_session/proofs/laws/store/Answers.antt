use Rattle.zi_session.proofs.TiedLemmas.{store_law}
use Rattle.zi_session.proofs.laws.store.Goals as goal

pub returns : goal.returns
returns c = store_law
