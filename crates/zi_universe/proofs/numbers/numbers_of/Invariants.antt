use Rattle.std.proofs.Common.{◌≡◌, length}
use Rattle.zi_universe.specs.Offering.{versions_of}
use Rattle.zi_universe.proofs.NumberLemmas.{AreCounted}
use Rattle.zi_universe.proofs.numbers.numbers_of.Given as goal

abbrev pub invariant-loop-at : goal.invariant-loop-at
invariant-loop-at l = record {
  count : length l.numbers.items ≡ length l.versions;
  counted : AreCounted (versions_of l.order) l.order l.numbers.items l.at l.number;
}
