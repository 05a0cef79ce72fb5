use Rattle.std.specs.Prelude.{IsUtf8}
use Rattle.zi_doc.proofs.Law.{settled_law, utf8_or_not}
use Rattle.zi_doc.proofs.laws.one_answer.Goals as goal

pub returns : goal.returns
returns c = λ w. settled_law c.answers_are_right.ensures c.one_meaning.ensures w (utf8_or_not w)
