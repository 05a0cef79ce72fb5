use Rattle.std.proofs.Common.{◌≡◌, take}
use Rattle.zi_shelf.specs.Told.{spelled}
use Rattle.zi_memory.proofs.reading.spelled_path.Given as goal

abbrev pub invariant-loop-i : goal.invariant-loop-i
invariant-loop-i l = l.text ≡ spelled (take l.i l.part-items)
