use Rattle.std.proofs.Common.{◌≡◌, ◌++◌, take}
use Rattle.zi_choosing.proofs.known.add_names.Given as goal

abbrev pub invariant-loop-digest : goal.invariant-loop-digest
invariant-loop-digest l = l.names ≡ l.fn.names ++ take l.digest-index l.digests
