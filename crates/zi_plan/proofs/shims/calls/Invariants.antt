use Rattle.std.proofs.Common.{map, drop}
use Rattle.zi_outside.specs.Vars.{value_of}
use Rattle.zi_plan.specs.Steps.{bound_seen}
use Rattle.zi_plan.proofs.CallLaws.{AreCalled}
use Rattle.zi_plan.proofs.shims.calls.Given as goal

abbrev pub invariant-loop-bound : goal.invariant-loop-bound
invariant-loop-bound l = AreCalled l.table (value_of l.vars) (map bound_seen l.bounds) (drop l.bound-index (map bound_seen l.bounds)) l.calls
