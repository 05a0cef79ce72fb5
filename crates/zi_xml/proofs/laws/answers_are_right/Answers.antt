use Rattle.zi_xml.proofs.Law.{right_law}
use Rattle.zi_xml.proofs.laws.answers_are_right.Goals as goal

pub returns : goal.returns
returns c = right_law
