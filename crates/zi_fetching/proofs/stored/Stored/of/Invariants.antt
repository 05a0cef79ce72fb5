use Rattle.std.proofs.Common.{◌≡◌, drop, map}
use Rattle.zi_digest.specs.Name.{spelling}
use Rattle.zi_universe.specs.Naming.{joined}
use Rattle.zi_choosing.specs.Knowing.{all_names}
use Rattle.zi_fetching.specs.Known.{names_of}
use Rattle.zi_fetching.proofs.stored.Stored.of.Given as goal

abbrev pub invariant-loop-digests : goal.invariant-loop-digests
invariant-loop-digests l = joined l.stored (map spelling (all_names (drop l.digests-index l.each))) ≡ names_of (all_names l.each)
