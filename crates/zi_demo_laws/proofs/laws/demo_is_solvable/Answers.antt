use Rattle.zi_demo_laws.proofs.SolvedLemmas.{all_solvable}
use Rattle.zi_demo_laws.proofs.laws.demo_is_solvable.Goals as goal

pub returns : goal.returns
returns c = all_solvable c.what_is_written_is_read.ensures
