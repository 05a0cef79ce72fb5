use Rattle.std.proofs.Common.{◌≡◌, take}
use Rattle.zi_conflict.specs.Resting.{picked}
use Rattle.zi_conflict.proofs.cores.picked.Given as goal

abbrev pub invariant-loop-k : goal.invariant-loop-k
invariant-loop-k l = l.found.items ≡ picked l.marks (take l.k l.numbers)
