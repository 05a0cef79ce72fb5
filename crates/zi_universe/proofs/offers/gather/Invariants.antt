use Rattle.std.proofs.Common.{◌≡◌, ◌++◌, drop}
use Rattle.zi_universe.specs.Loading.{store_of}
use Rattle.zi_universe.specs.Tables.{feeds_at, held}
use Rattle.zi_universe.specs.Offering.{candidates_of, AreNumbered}
use Rattle.zi_universe.proofs.offers.gather.Given as goal

abbrev pub invariant-loop-uri : goal.invariant-loop-uri
invariant-loop-uri l = record {
  held :
      candidates_of l.offers.offered.items ++ held l.wanted.req l.wanted.policy (store_of l.wanted) l.interface (feeds_at l.table (drop l.uri-index l.here))
      ≡ held l.wanted.req l.wanted.policy (store_of l.wanted) l.interface (feeds_at l.table l.here);
  numbered : AreNumbered l.offers.feeds l.offers.offered.items;
}
