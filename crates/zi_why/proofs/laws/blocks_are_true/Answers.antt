use Rattle.zi_why.proofs.BlockLaws.{blocks_true}
use Rattle.zi_why.proofs.laws.blocks_are_true.Goals as goal

pub returns : goal.returns
returns c = blocks_true
