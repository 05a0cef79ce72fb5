use Rattle.std.proofs.Common.{◌≡◌, drop, find}
use Rattle.zi_fetching.specs.Known.{is_known}
use Rattle.zi_launching.proofs.folders.first_stored.Given as goal

abbrev pub invariant-loop-digest : goal.invariant-loop-digest
invariant-loop-digest l = find (is_known l.stored) (drop l.digest-index l.digests) ≡ find (is_known l.stored) l.digests
