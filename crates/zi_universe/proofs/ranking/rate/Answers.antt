use Rattle.std.proofs.Common.{◌≡◌, List, ℕ, Some, length, get_or, ap, sym, ◌∙◌, arith}
use Rattle.std.proofs.lemmas.Iterator.Adapters.{YieldsList-from_vec}
use Rattle.std.proofs.lemmas.Iterator.Consumers.{YieldsList-turn, YieldsList-end}
use Rattle.std.proofs.lemmas.List.{map-id, length-map, take_all}
use Rattle.zi_rank.specs.declared.rating.Places.{Places}
use Rattle.zi_rank.specs.Ratings.{places_of}
use Rattle.zi_universe.specs.declared.offers.Key.{Key}
use Rattle.zi_universe.specs.declared.ranking.RatedCandidate.{RatedCandidate}
use Rattle.zi_universe.specs.Offering.{IsNumbered, langs_at, least}
use Rattle.zi_universe.proofs.KeyLemmas.{finds_none, All-turn, langs_there}
use Rattle.zi_universe.proofs.RankedLemmas.{none_rated, one_rated}
use Rattle.zi_universe.proofs.ranking.rate.Goals as goal

pub loop-one-init : goal.loop-one-init
loop-one-init c = record {
  rated = none_rated c.args.policy.now c.args.numbers.now c.in_ok-rated.rated.items c.in_ok-rated.ensures.items;
  finds = finds_none (λ (q : Key) (x : Places). (ls : List (List ℕ)) → langs_at c.args.feeds.now q ≡ Some ls → x ≡ places_of c.args.policy.now ls) c.new-known.result.entries c.new-known.ensures.empty;
}

pub places_of-requires-clause-there : goal.places_of-requires-clause-there
places_of-requires-clause-there c =
    let t = YieldsList-turn (YieldsList-from_vec c.args.offered.items c.into_iter-one-iterator.ensures.into_iter_gives.0 (c.into_iter-one-iterator.ensures.into_iter_gives.1 ∙ c.args.offered.ok.0))
    c.loop-one.yielded c.loop-one.one-iterator c.loop-one.yielded_by c.next.result c.next.new.self c.in-Some.one c.in-Some.is c.next.ensures.steps in (
      c.in-Some.one.candidate.standing.langs,
      langs_there c.args.feeds.now c.in-Some.one (All-turn (IsNumbered c.args.feeds.now) c.args.offered.items _ c.in-Some.one c.requires.numbered t),
    )

pub places_of-requires-clause-finds : goal.places_of-requires-clause-finds
places_of-requires-clause-finds c = c.loop-one.invariant.finds

pub placed-rating-requires : goal.placed-rating-requires
placed-rating-requires c =
    let t = YieldsList-turn (YieldsList-from_vec c.args.offered.items c.into_iter-one-iterator.ensures.into_iter_gives.0 (c.into_iter-one-iterator.ensures.into_iter_gives.1 ∙ c.args.offered.ok.0))
    c.loop-one.yielded c.loop-one.one-iterator c.loop-one.yielded_by c.next.result c.next.new.self c.in-Some.one c.in-Some.is c.next.ensures.steps in
    c.in_ok-places.ensures.at c.in-Some.one.candidate.standing.langs
    (langs_there c.args.feeds.now c.in-Some.one (All-turn (IsNumbered c.args.feeds.now) c.args.offered.items _ c.in-Some.one c.requires.numbered t))

pub bounds-numbers-at : goal.bounds-numbers-at
bounds-numbers-at c =
    let t = YieldsList-turn (YieldsList-from_vec c.args.offered.items c.into_iter-one-iterator.ensures.into_iter_gives.0 (c.into_iter-one-iterator.ensures.into_iter_gives.1 ∙ c.args.offered.ok.0))
    c.loop-one.yielded c.loop-one.one-iterator c.loop-one.yielded_by c.next.result c.next.new.self c.in-Some.one c.in-Some.is c.next.ensures.steps in
    let long : length c.loop-one.yielded ≡ length c.loop-one.rated.items =
    ap length (sym c.loop-one.invariant.rated.same) ∙ length-map c.loop-one.rated.items (λ (r : RatedCandidate). r.one) in
    omega (arith, t.0, long, c.requires.count, c.len-at.ensures, c.loop-one.rated.ok.0)

pub loop-one-preserved : goal.loop-one-preserved
loop-one-preserved c =
    let t = YieldsList-turn (YieldsList-from_vec c.args.offered.items c.into_iter-one-iterator.ensures.into_iter_gives.0 (c.into_iter-one-iterator.ensures.into_iter_gives.1 ∙ c.args.offered.ok.0))
    c.loop-one.yielded c.loop-one.one-iterator c.loop-one.yielded_by c.next.result c.next.new.self c.in-Some.one c.in-Some.is c.next.ensures.steps in
    let long : length c.loop-one.yielded ≡ length c.loop-one.rated.items =
    ap length (sym c.loop-one.invariant.rated.same) ∙ length-map c.loop-one.rated.items (λ (r : RatedCandidate). r.one) in
    let at : c.len-at.result ≡ length c.loop-one.yielded = omega (arith, long, c.len-at.ensures, c.loop-one.rated.ok.0) in
    record {
      rated = one_rated c.args.policy.now c.loop-one.yielded c.args.numbers.now c.loop-one.rated.items c.push.new.self.items _ c.in_ok-push.ensures.items
          (omega (arith, t.0, c.requires.count)) c.placed-rating.ensures (ap (λ q. get_or c.args.numbers.now q least) at) c.loop-one.invariant.rated;
      finds = c.in_ok-places.ensures.finds;
    }

pub returns-clause-same : goal.returns-clause-same
returns-clause-same c =
    let e = YieldsList-end (YieldsList-from_vec c.args.offered.items c.into_iter-one-iterator.ensures.into_iter_gives.0 (c.into_iter-one-iterator.ensures.into_iter_gives.1 ∙ c.args.offered.ok.0))
    c.loop-one.yielded c.loop-one.one-iterator c.loop-one.yielded_by c.next.result c.next.new.self c.in-None.is c.next.ensures.steps in
    c.loop-one.invariant.rated.same ∙ sym (map-id c.loop-one.yielded) ∙ e.0

pub returns-clause-numbers : goal.returns-clause-numbers
returns-clause-numbers c =
    let e = YieldsList-end (YieldsList-from_vec c.args.offered.items c.into_iter-one-iterator.ensures.into_iter_gives.0 (c.into_iter-one-iterator.ensures.into_iter_gives.1 ∙ c.args.offered.ok.0))
    c.loop-one.yielded c.loop-one.one-iterator c.loop-one.yielded_by c.next.result c.next.new.self c.in-None.is c.next.ensures.steps in
    let long : length c.loop-one.yielded ≡ length c.args.offered.items = ap length (sym (map-id c.loop-one.yielded) ∙ e.0) in
    c.loop-one.invariant.rated.numbers ∙ take_all (length c.loop-one.yielded) c.args.numbers.now (omega (arith, long, c.requires.count))

pub returns-clause-ratings : goal.returns-clause-ratings
returns-clause-ratings c = c.loop-one.invariant.rated.ratings
