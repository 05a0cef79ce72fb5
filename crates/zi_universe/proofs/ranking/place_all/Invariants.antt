use Rattle.std.proofs.Common.{take}
use Rattle.zi_universe.specs.Offering.{FindsVersions, texts_of, ArePlacedIn}
use Rattle.zi_universe.proofs.ranking.place_all.Given as goal

abbrev pub invariant-loop-one : goal.invariant-loop-one
invariant-loop-one l = record {
  placed : ArePlacedIn (texts_of l.versions.items) (take l.one-index l.offered) l.places.items;
  finds : FindsVersions l.feeds l.known.entries (texts_of l.versions.items);
}
