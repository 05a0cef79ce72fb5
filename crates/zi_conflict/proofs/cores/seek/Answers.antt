use Rattle.std.proofs.Common.{subst}
use Rattle.zi_sat.specs.declared.found.Found.{Found}
use Rattle.zi_sat.specs.Ends.{Ends}
use Rattle.zi_conflict.proofs.cores.seek.Goals as goal

pub returns-clause-end : goal.returns-clause-end
returns-clause-end c = λ is. subst (λ (found : Found). Ends c.args.search.now.formula c.run.new.self.log.lemmas c.run.new.self.trail.entries c.args.most found) is c.in_ok-found.ensures.end
