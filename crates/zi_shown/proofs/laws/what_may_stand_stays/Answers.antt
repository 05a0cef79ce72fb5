use Rattle.zi_shown.proofs.ShownLemmas.{as_it_is}
use Rattle.zi_shown.proofs.laws.what_may_stand_stays.Goals as goal

pub returns : goal.returns
returns c = as_it_is
