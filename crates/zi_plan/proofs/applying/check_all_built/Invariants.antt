use Rattle.std.proofs.Common.{◌≡◌, map, drop}
use Rattle.zi_plan.specs.Launches.{shimmed}
use Rattle.zi_plan.specs.Shims.{unbuilt_shim}
use Rattle.zi_plan.specs.Steps.{bound_seen}
use Rattle.zi_plan.proofs.applying.check_all_built.Given as goal

abbrev pub invariant-loop-bound : goal.invariant-loop-bound
invariant-loop-bound l = unbuilt_shim (shimmed (map bound_seen l.bounds)) ≡ unbuilt_shim (shimmed (drop l.bound-index (map bound_seen l.bounds)))
