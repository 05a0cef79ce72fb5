use Rattle.zi_session.proofs.TiedLemmas.{events_keep}
use Rattle.zi_session.proofs.laws.events_keep.Goals as goal

pub returns : goal.returns
returns c = events_keep
