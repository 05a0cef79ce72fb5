use Rattle.zi_session.proofs.TiedLemmas.{keeps}
use Rattle.zi_session.proofs.laws.step_keeps.Goals as goal

pub returns : goal.returns
returns c = keeps
