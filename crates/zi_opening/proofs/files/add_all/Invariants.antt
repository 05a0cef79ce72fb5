use Rattle.std.specs.Prelude.{◌≡◌, ◌++◌, take}
use Rattle.zi_opening.proofs.files.add_all.Given as goal

abbrev pub invariant-loop-digest : goal.invariant-loop-digest
invariant-loop-digest l = l.digests ≡ l.fn.digests ++ take l.digest-index l.more
