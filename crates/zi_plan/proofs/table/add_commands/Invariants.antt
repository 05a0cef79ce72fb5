use Rattle.std.proofs.Common.{◌≤◌, drop, length}
use Rattle.zi_plan.specs.Steps.{AddsCommands}
use Rattle.zi_plan.proofs.table.add_commands.Given as goal

abbrev pub invariant-loop-left : goal.invariant-loop-left
invariant-loop-left l = record {
  in_range : l.left ≤ length l.commands;
  added : AddsCommands l.interface (drop l.left l.commands) l.initial.table.entries l.table.entries;
}

abbrev pub decreases-loop-left : goal.decreases-loop-left
decreases-loop-left l = l.left
