use Rattle.zi_universe.proofs.SomeLemmas.{loads_or}
use Rattle.zi_universe.proofs.laws.some_answer.Goals as goal

pub returns : goal.returns
returns c = loads_or c.ranks_are_strict.ensures c.one_answer.ensures
