use Rattle.zi_demo_laws.proofs.SolvedLemmas.{all_clear}
use Rattle.zi_demo_laws.proofs.laws.demo_is_clear.Goals as goal

pub returns : goal.returns
returns c = all_clear c.one_universe.ensures c.universe_excludes.ensures c.demo_is_solvable.ensures
