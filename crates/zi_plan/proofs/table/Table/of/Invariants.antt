use Rattle.std.proofs.Common.{map, take}
use Rattle.zi_plan.specs.Steps.{FindsSelected, FindsCommands, placed_seen}
use Rattle.zi_plan.proofs.table.Table.of.Given as goal

abbrev pub invariant-loop-x : goal.invariant-loop-x
invariant-loop-x l = FindsSelected (map placed_seen (take l.x-index l.all)) l.selected.entries × FindsCommands (map placed_seen (take l.x-index l.all)) l.commands.entries
