use Rattle.zi_choice.proofs.WalkLaws.{walk_one}
use Rattle.zi_choice.proofs.laws.walk_is_one.Goals as goal

pub returns : goal.returns
returns c = walk_one
