use Rattle.std.proofs.Common.{◌≡◌, drop, map}
use Rattle.zi_digest.specs.Name.{spelling}
use Rattle.zi_universe.specs.Naming.{joined}
use Rattle.zi_showing.specs.Text.{stored_names}
use Rattle.zi_showing.proofs.lines.names_of.Given as goal

abbrev pub invariant-loop-digest : goal.invariant-loop-digest
invariant-loop-digest l = joined l.names.keys (map spelling (drop l.digest-index l.digests)) ≡ stored_names l.digests
