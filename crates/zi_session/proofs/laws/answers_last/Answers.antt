use Rattle.zi_session.proofs.TiedLemmas.{answers_last}
use Rattle.zi_session.proofs.laws.answers_last.Goals as goal

pub returns : goal.returns
returns c = answers_last
