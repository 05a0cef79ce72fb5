use Rattle.zi_sels.proofs.ReadingLaws.{settled}
use Rattle.zi_sels.proofs.laws.one_reading.Goals as goal

pub returns : goal.returns
returns c = λ w. settled w (c.one_answer.ensures w)
