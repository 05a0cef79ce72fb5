use Rattle.zi_packages.proofs.TextLaws.{bad_line_is_one}
use Rattle.zi_packages.proofs.laws.bad_line_is_one.Goals as goal

pub returns : goal.returns
returns c = bad_line_is_one
