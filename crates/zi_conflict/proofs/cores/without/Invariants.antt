use Rattle.std.proofs.Common.{take}
use Rattle.zi_conflict.specs.Resting.{IsPart}
use Rattle.zi_conflict.proofs.cores.without.Given as goal

abbrev pub invariant-loop-k : goal.invariant-loop-k
invariant-loop-k l = IsPart l.others.items (take l.k l.numbers)
