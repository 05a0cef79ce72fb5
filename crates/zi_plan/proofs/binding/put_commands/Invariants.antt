use Rattle.std.proofs.Common.{◌≡◌, ◌++◌, map, take}
use Rattle.std.specs.List.{flat_map}
use Rattle.zi_plan.specs.Launches.{of_command}
use Rattle.zi_plan.specs.Steps.{placed_seen, bound_seen}
use Rattle.zi_plan.proofs.binding.put_commands.Given as goal

abbrev pub invariant-loop-command : goal.invariant-loop-command
invariant-loop-command l = map bound_seen l.out.items ≡ map bound_seen l.initial.out.items ++ flat_map (of_command l.table (placed_seen l.x)) (take l.command-index l.commands)
