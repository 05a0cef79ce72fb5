use Rattle.zi_universe.specs.Offering.{texts_of}
use Rattle.zi_universe.proofs.NumberLemmas.{AreFirst}
use Rattle.zi_universe.proofs.numbers.with_places.Given as goal

abbrev pub invariant-loop-place : goal.invariant-loop-place
invariant-loop-place l = AreFirst (texts_of l.versions) l.placed.items l.place
