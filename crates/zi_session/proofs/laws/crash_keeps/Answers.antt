use Rattle.zi_session.proofs.TiedLemmas.{crash_keeps}
use Rattle.zi_session.proofs.laws.crash_keeps.Goals as goal

pub returns : goal.returns
returns c = crash_keeps
