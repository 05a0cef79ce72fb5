use Rattle.std.proofs.Common.{◌≡◌, ◌+◌, ◌++◌, drop, filter, length}
use Rattle.zi_packages.specs.Picks.{all_picked}
use Rattle.zi_universe.specs.Loading.{store_of}
use Rattle.zi_universe.specs.Candidates.{is_admitted}
use Rattle.zi_universe.specs.Tables.{held_from}
use Rattle.zi_universe.specs.Offering.{candidates_of, AreNumbered}
use Rattle.zi_universe.proofs.offers.offer_rows.Given as goal

abbrev pub invariant-loop-n : goal.invariant-loop-n
invariant-loop-n l = record {
  feeds : l.offers.feeds ≡ l.fn.offers.feeds;
  held :
      candidates_of l.offers.offered.items ++ filter (is_admitted l.wanted.req l.wanted.policy l.interface) (held_from l.wanted.policy (store_of l.wanted) l.interface l.read.feed.uri (length l.read.feed.impls + l.n) (drop l.n (all_picked l.picks)))
      ≡ candidates_of l.fn.offers.offered.items ++ filter (is_admitted l.wanted.req l.wanted.policy l.interface) (held_from l.wanted.policy (store_of l.wanted) l.interface l.read.feed.uri (length l.read.feed.impls) (all_picked l.picks));
  numbered : AreNumbered l.fn.offers.feeds l.fn.offers.offered.items → AreNumbered l.offers.feeds l.offers.offered.items;
}
