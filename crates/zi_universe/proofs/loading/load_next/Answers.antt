use Rattle.std.proofs.Common.{◌≡◌, ℕ, length, slice_get, Some, subst, inl, inr}
use Rattle.std.proofs.lemmas.Result.{err_from_is_err_and}
use Rattle.zi_outside.specs.Views.{holding}
use Rattle.zi_universe.specs.Loading.{store_of}
use Rattle.zi_universe.specs.Offering.{candidates_of}
use Rattle.zi_universe.proofs.NextLemmas.{few_counted, next_done, next_gets, stops_gathering}
use Rattle.zi_universe.proofs.StopsLemmas.{stops_before, stops_listing}
use Rattle.zi_universe.proofs.loading.load_next.Goals as goal

pub returns-in_err-uri-clause-next : goal.returns-in_err-uri-clause-next
returns-in_err-uri-clause-next g c =
    let seen = g.F.Feeds.seen c.args.feeds.now in
    let q = err_from_is_err_and c.from_residual.result c.from_residual.ensures.1 in
    rw (q.1, q.2)
    (stops_before (holding seen) c.args.wanted.now.req c.args.wanted.now.policy (store_of c.args.wanted.now) c.args.state.now seen c.requires.at c.requires.more)

pub finish-requires-clause-numbered : goal.finish-requires-clause-numbered
finish-requires-clause-numbered g c = c.in_ok-offers.ensures.numbered

pub finish-requires-clause-few : goal.finish-requires-clause-few
finish-requires-clause-few g c =
    few_counted (holding (g.F.Feeds.seen c.args.feeds.now)) c.args.wanted.now.req c.args.wanted.now.policy (store_of c.args.wanted.now) c.args.state.now c.requires.at

pub returns-in_err-offers-clause-next : goal.returns-in_err-offers-clause-next
returns-in_err-offers-clause-next g c =
    let s = c.args.state.now in
    let seen = g.F.Feeds.seen c.args.feeds.now in
    let P : ℕ → Type 0 = λ n. slice_get s.names.keys n ≡ Some c.in_ok-uri.uri in
    let next : slice_get s.names.keys (length s.done) ≡ Some c.in_ok-uri.uri = subst P c.len.ensures c.in_ok-uri.ensures in
    let q = err_from_is_err_and c.from_residual-in_err-offers.result c.from_residual-in_err-offers.ensures.1 in
    rw (q.1, q.2)
    (elim c.in_err-offers.ensures.gathers [
      | inl l ↦ stops_listing (holding seen) c.args.wanted.now.req c.args.wanted.now.policy (store_of c.args.wanted.now) s.done s.names.keys s.table c.in_ok-uri.uri
          c.requires.at.loaded next seen (g.F.Feeds.seen c.look_for.new.feeds) c.in_err-offers.field-0.0 l
      | inr w ↦ stops_gathering (holding seen) c.args.wanted.now.req c.args.wanted.now.policy (store_of c.args.wanted.now) s c.in_ok-uri.uri c.requires.at next seen (g.F.Feeds.seen c.look_for.new.feeds) c.in_err-offers.field-0.0 w
    ])

pub returns-clause-next : goal.returns-clause-next
returns-clause-next g c =
    let s = c.args.state.now in
    let seen = g.F.Feeds.seen c.args.feeds.now in
    let P : ℕ → Type 0 = λ n. slice_get s.names.keys n ≡ Some c.in_ok-uri.uri in
    next_done (holding seen) c.args.wanted.now.req c.args.wanted.now.policy (store_of c.args.wanted.now) s c.in_ok-uri.uri c.requires.at
    (subst P c.len.ensures c.in_ok-uri.ensures) (candidates_of c.in_ok-offers.offers.offered.items) c.look_for.new.table c.in_ok-offers.ensures.gathers c.finish.result c.finish.new.state
    seen (g.F.Feeds.seen c.look_for.new.feeds) c.in_ok-offers.ensures.asks c.finish.ensures

pub returns-clause-asks : goal.returns-clause-asks
returns-clause-asks g c =
    let s = c.args.state.now in
    let seen = g.F.Feeds.seen c.args.feeds.now in
    let P : ℕ → Type 0 = λ n. slice_get s.names.keys n ≡ Some c.in_ok-uri.uri in
    next_gets (holding seen) c.args.wanted.now.req c.args.wanted.now.policy (store_of c.args.wanted.now) s c.in_ok-uri.uri c.requires.at
    (subst P c.len.ensures c.in_ok-uri.ensures) (candidates_of c.in_ok-offers.offers.offered.items) c.look_for.new.table c.in_ok-offers.ensures.gathers c.finish.result c.finish.new.state
    seen (g.F.Feeds.seen c.look_for.new.feeds) c.in_ok-offers.ensures.asks c.finish.ensures
