use Rattle.zi_showing.proofs.OnceLaws.{each_once}
use Rattle.zi_showing.proofs.laws.each_is_shown_once.Goals as goal

pub returns : goal.returns
returns c = λ sels trees are. each_once sels trees are
