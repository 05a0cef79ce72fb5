use Rattle.zi_universe.proofs.OnceLemmas.{one_at_most}
use Rattle.zi_universe.proofs.laws.one_universe.Goals as goal

pub returns : goal.returns
returns c = one_at_most c.ranks_are_strict.ensures c.one_answer.ensures
