use Rattle.zi_session.proofs.AloneLemmas.{as_left_law}
use Rattle.zi_session.proofs.alone_laws.finds_own.Goals as goal

pub returns : goal.returns
returns c = as_left_law
