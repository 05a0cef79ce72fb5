use Rattle.std.proofs.Common.{◌≡◌, map, take}
use Rattle.zi_conflict.specs.Core.{constraint_at}
use Rattle.zi_conflict.specs.Ground.{formula_of}
use Rattle.zi_conflict.proofs.cores.only.Given as goal

abbrev pub invariant-loop-n : goal.invariant-loop-n
invariant-loop-n l = l.constraints ≡ map (constraint_at (formula_of l.on).constraints) (take l.n-index l.numbers)
