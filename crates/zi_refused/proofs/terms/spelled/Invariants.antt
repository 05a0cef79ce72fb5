use Rattle.std.proofs.Common.{◌≡◌, drop, map}
use Rattle.zi_digest.specs.Name.{spelling}
use Rattle.zi_universe.specs.Naming.{joined, without_repeats}
use Rattle.zi_refused.proofs.terms.spelled.Given as goal

abbrev pub invariant-loop-digest : goal.invariant-loop-digest
invariant-loop-digest l = joined l.names.keys (map spelling (drop l.digest-index l.digests)) ≡ without_repeats (map spelling l.digests)
