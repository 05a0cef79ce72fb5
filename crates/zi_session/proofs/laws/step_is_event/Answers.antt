use Rattle.zi_session.proofs.TiedLemmas.{is_event}
use Rattle.zi_session.proofs.laws.step_is_event.Goals as goal

pub returns : goal.returns
returns c = is_event
