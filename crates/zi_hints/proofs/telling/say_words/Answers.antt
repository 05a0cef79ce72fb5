use Rattle.zi_hints.proofs.TellingLemmas.{at_place}
use Rattle.zi_hints.proofs.telling.say_words.Goals as goal

pub returns : goal.returns
returns g c = at_place _ _ _ _ _ c.wrong_at-place.ensures c.say_at_place.ensures
