use Rattle.std.proofs.Common.{◌≡◌, ◌++◌, drop, filter}
use Rattle.zi_universe.specs.Loading.{store_of}
use Rattle.zi_universe.specs.Candidates.{is_admitted}
use Rattle.zi_universe.specs.Tables.{held_from}
use Rattle.zi_universe.specs.Offering.{candidates_of, AreNumbered}
use Rattle.zi_universe.proofs.offers.offer_impls.Given as goal

abbrev pub invariant-loop-place : goal.invariant-loop-place
invariant-loop-place l = record {
  feeds : l.offers.feeds ≡ l.fn.offers.feeds;
  held :
      candidates_of l.offers.offered.items ++ filter (is_admitted l.wanted.req l.wanted.policy l.interface) (held_from l.wanted.policy (store_of l.wanted) l.interface l.read.feed.uri l.place (drop l.place l.read.feed.impls))
      ≡ candidates_of l.fn.offers.offered.items ++ filter (is_admitted l.wanted.req l.wanted.policy l.interface) (held_from l.wanted.policy (store_of l.wanted) l.interface l.read.feed.uri 0 l.read.feed.impls);
  numbered : AreNumbered l.fn.offers.feeds l.fn.offers.offered.items → AreNumbered l.offers.feeds l.offers.offered.items;
}
