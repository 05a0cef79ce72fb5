use Rattle.std.proofs.Common.{◌≡◌, ◌++◌, map, take}
use Rattle.zi_plan.specs.Launches.{in_folder}
use Rattle.zi_plan.specs.Steps.{placed_seen, bound_seen}
use Rattle.zi_plan.proofs.binding.put_all.Given as goal

abbrev pub invariant-loop-binding : goal.invariant-loop-binding
invariant-loop-binding l = map bound_seen l.out.items ≡ map bound_seen l.initial.out.items ++ in_folder (placed_seen l.x) (take l.binding-index l.bindings)
