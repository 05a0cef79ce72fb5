use Rattle.zi_universe.specs.Offering.{FindsPlaces}
use Rattle.zi_universe.proofs.RankedLemmas.{AreRated}
use Rattle.zi_universe.proofs.ranking.rate.Given as goal

abbrev pub invariant-loop-one : goal.invariant-loop-one
invariant-loop-one l = record {
  rated : AreRated l.policy l.yielded l.numbers l.rated.items;
  finds : FindsPlaces l.policy l.feeds l.known.entries;
}
