use Rattle.zi_why.proofs.OneLaws.{report_one}
use Rattle.zi_why.proofs.laws.report_is_one.Goals as goal

pub returns : goal.returns
returns c = report_one
