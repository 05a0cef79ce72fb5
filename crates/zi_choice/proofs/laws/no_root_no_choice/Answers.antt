use Rattle.zi_choice.proofs.AloneLaws.{no_root_no_choice}
use Rattle.zi_choice.proofs.laws.no_root_no_choice.Goals as goal

pub returns : goal.returns
returns c = no_root_no_choice
