use Rattle.zi_app.proofs.CauseLaws.{ids_apart}
use Rattle.zi_app.proofs.laws.ids_differ.Goals as goal

pub returns : goal.returns
returns c = λ uri bytes feed says. ids_apart uri bytes feed says
