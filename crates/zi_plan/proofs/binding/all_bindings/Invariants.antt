use Rattle.std.proofs.Common.{◌≡◌, map, take}
use Rattle.std.specs.List.{flat_map}
use Rattle.zi_plan.specs.Steps.{bound_seen}
use Rattle.zi_plan.proofs.BindingLaws.{of_lent}
use Rattle.zi_plan.proofs.binding.all_bindings.Given as goal

abbrev pub invariant-loop-x : goal.invariant-loop-x
invariant-loop-x l = map bound_seen l.out.items ≡ flat_map (of_lent l.table) (take l.x-index l.placed)
