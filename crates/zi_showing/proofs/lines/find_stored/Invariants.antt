use Rattle.std.proofs.Common.{◌≡◌, drop}
use Rattle.std.specs.List.{find}
use Rattle.zi_showing.specs.Text.{is_stored}
use Rattle.zi_showing.proofs.lines.find_stored.Given as goal

abbrev pub invariant-loop-digest : goal.invariant-loop-digest
invariant-loop-digest l = find (is_stored l.names.keys) (drop l.digest-index l.digests) ≡ find (is_stored l.names.keys) l.digests
