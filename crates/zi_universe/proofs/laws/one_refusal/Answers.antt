use Rattle.zi_universe.proofs.RefusedOnceLemmas.{refused_once}
use Rattle.zi_universe.proofs.laws.one_refusal.Goals as goal

pub returns : goal.returns
returns c = refused_once c.ranks_are_strict.ensures c.one_answer.ensures
