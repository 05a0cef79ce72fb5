use Rattle.zi_universe.proofs.ExclusionLemmas.{excludes}
use Rattle.zi_universe.proofs.laws.universe_excludes.Goals as goal

pub returns : goal.returns
returns c = excludes c.ranks_are_strict.ensures c.one_answer.ensures
