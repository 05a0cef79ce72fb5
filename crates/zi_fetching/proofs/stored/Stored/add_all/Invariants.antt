use Rattle.std.proofs.Common.{◌≡◌, drop, map}
use Rattle.zi_digest.specs.Name.{spelling}
use Rattle.zi_universe.specs.Naming.{joined}
use Rattle.zi_fetching.proofs.stored.Stored.add_all.Given as goal

abbrev pub invariant-loop-digest : goal.invariant-loop-digest
invariant-loop-digest l = joined l.self (map spelling (drop l.digest-index l.digests)) ≡ joined l.fn.self (map spelling l.digests)
