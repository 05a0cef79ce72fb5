use Rattle.zi_universe.specs.Offering.{StandsAt}
use Rattle.zi_universe.proofs.KeyLemmas.{finds_none}
use Rattle.zi_universe.proofs.ranking.turn_to.Goals as goal

pub returns-then-one-feed : goal.returns-then-one-feed
returns-then-one-feed c = λ feeds versions finds. finds_none (λ q m. StandsAt feeds q versions m) c.new.result.entries c.new.ensures.empty

pub returns-else-one-feed : goal.returns-else-one-feed
returns-else-one-feed c = λ feeds versions finds. finds
