use Rattle.zi_session.proofs.AloneLemmas.{alone_law}
use Rattle.zi_session.proofs.alone_laws.ends_alone.Goals as goal

pub returns : goal.returns
returns c = alone_law
