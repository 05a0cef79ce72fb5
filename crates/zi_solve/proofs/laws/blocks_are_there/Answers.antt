use Rattle.zi_solve.proofs.GivenLaws.{blocks_are_there}
use Rattle.zi_solve.proofs.laws.blocks_are_there.Goals as goal

pub returns : goal.returns
returns c = blocks_are_there
