use Rattle.zi_shown.proofs.ShownLemmas.{nothing_raw}
use Rattle.zi_shown.proofs.laws.nothing_raw_is_shown.Goals as goal

pub returns : goal.returns
returns c = nothing_raw
