use Rattle.std.proofs.Common.{◌≡◌, List, ℕ, Some, sym, ap, ◌∙◌}
use Rattle.zi_rank.specs.declared.rating.Places.{Places}
use Rattle.zi_rank.specs.Ratings.{places_of}
use Rattle.zi_universe.specs.declared.offers.Key.{Key}
use Rattle.zi_universe.specs.Offering.{langs_at}
use Rattle.zi_universe.proofs.KeyLemmas.{finds_more, one_value}
use Rattle.zi_universe.proofs.ranking.places_once.Goals as goal

pub returns-in-Some-clause-finds : goal.returns-in-Some-clause-finds
returns-in-Some-clause-finds c = c.requires.finds

pub returns-in-Some-clause-at : goal.returns-in-Some-clause-at
returns-in-Some-clause-at c = c.requires.finds c.args.key c.in-Some.places.now (sym c.in-Some.ensures.value)

pub langs_at-langs-requires : goal.langs_at-langs-requires
langs_at-langs-requires c = c.requires.there

pub returns-clause-finds : goal.returns-clause-finds
returns-clause-finds c =
    finds_more (λ (q : Key) (x : Places). (ls : List (List ℕ)) → langs_at c.args.feeds.now q ≡ Some ls → x ≡ places_of c.args.policy.now ls) c.args.key c.of-places.result
    c.args.known.now.entries c.insert.new.self.entries c.in_ok-insert.ensures.updates.0
    (λ ls e. c.of-places.ensures ∙ ap (places_of c.args.policy.now) (c.as_slice.ensures ∙ one_value (langs_at c.args.feeds.now c.args.key) _ ls c.langs_at-langs.ensures e)) c.requires.finds

pub returns-clause-at : goal.returns-clause-at
returns-clause-at c = λ ls e.
    c.of-places.ensures ∙ ap (places_of c.args.policy.now) (c.as_slice.ensures ∙ one_value (langs_at c.args.feeds.now c.args.key) _ ls c.langs_at-langs.ensures e)
