use Rattle.zi_app.proofs.CauseLaws.{one_cause}
use Rattle.zi_app.proofs.laws.one_cause.Goals as goal

pub returns : goal.returns
returns c = λ root bytes. one_cause root bytes (c.one_answer.ensures bytes)
