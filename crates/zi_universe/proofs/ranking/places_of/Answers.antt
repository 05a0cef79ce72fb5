use Rattle.std.proofs.Common.{ap, ◌∙◌}
use Rattle.zi_rank.specs.Ratings.{places_of}
use Rattle.zi_universe.specs.Offering.{langs_at}
use Rattle.zi_universe.proofs.KeyLemmas.{one_value}
use Rattle.zi_universe.proofs.ranking.places_of.Goals as goal

pub langs_at-langs-requires : goal.langs_at-langs-requires
langs_at-langs-requires c = c.requires.there

pub returns-then-is_empty-clause-at : goal.returns-then-is_empty-clause-at
returns-then-is_empty-clause-at c = λ ls e.
    c.of-places.ensures ∙ ap (places_of c.args.policy.now) (c.as_slice.ensures ∙ one_value (langs_at c.args.feeds.now c.args.key) _ ls c.langs_at-langs.ensures e)
