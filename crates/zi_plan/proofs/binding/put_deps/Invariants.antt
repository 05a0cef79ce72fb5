use Rattle.std.proofs.Common.{◌≡◌, ◌++◌, map, take}
use Rattle.std.specs.List.{flat_map}
use Rattle.zi_plan.specs.Launches.{of_dep}
use Rattle.zi_plan.specs.Steps.{bound_seen}
use Rattle.zi_plan.proofs.binding.put_deps.Given as goal

abbrev pub invariant-loop-dep : goal.invariant-loop-dep
invariant-loop-dep l = map bound_seen l.out.items ≡ map bound_seen l.initial.out.items ++ flat_map (of_dep l.table) (take l.dep-index l.deps)
