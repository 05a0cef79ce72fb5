use Rattle.zi_facts.proofs.LineLaws.{lines_are_few as law}
use Rattle.zi_facts.proofs.laws.lines_are_few.Goals as goal

pub returns : goal.returns
returns c = law
