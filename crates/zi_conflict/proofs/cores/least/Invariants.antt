use Rattle.zi_conflict.specs.Ground.{formula_of}
use Rattle.zi_conflict.specs.Resting.{IsCoreOf}
use Rattle.zi_conflict.proofs.cores.least.Given as goal

abbrev pub invariant-loop-k : goal.invariant-loop-k
invariant-loop-k l = IsCoreOf (formula_of l.on) l.initial.kept.items l.kept.items
