use Rattle.zi_facts.proofs.FactLaws.{facts_are_rules as law}
use Rattle.zi_facts.proofs.laws.facts_are_rules.Goals as goal

pub returns : goal.returns
returns c = law
