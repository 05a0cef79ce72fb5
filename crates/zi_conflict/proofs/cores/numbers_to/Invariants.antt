use Rattle.std.proofs.Common.{◌≡◌}
use Rattle.zi_conflict.specs.Resting.{numbers_to}
use Rattle.zi_conflict.proofs.cores.numbers_to.Given as goal

abbrev pub invariant-loop-n : goal.invariant-loop-n
invariant-loop-n l = l.numbers.items ≡ numbers_to l.n
