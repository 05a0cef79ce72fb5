use Rattle.zi_xml.proofs.Law.{one_law}
use Rattle.zi_xml.proofs.laws.one_meaning.Goals as goal

pub returns : goal.returns
returns c = one_law
