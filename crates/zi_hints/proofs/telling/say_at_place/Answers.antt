use Rattle.zi_hints.proofs.SayingLemmas.{then_third}
use Rattle.zi_hints.proofs.telling.say_at_place.Goals as goal

pub returns : goal.returns
returns g c = then_third _ _ _ _ _ _ _ _ c.in_ok-say_wrong.ensures c.in_ok-say_advice.ensures c.say_former.ensures
