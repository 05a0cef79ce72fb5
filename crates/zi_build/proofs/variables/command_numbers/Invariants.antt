use Rattle.std.proofs.Common.{◌≡◌, ◌+◌, take}
use Rattle.zi_choice.specs.Vars.{total, all_commands}
use Rattle.zi_build.specs.Writing.{command_starts}
use Rattle.zi_build.proofs.variables.command_numbers.Given as goal

abbrev pub invariant-loop-x : goal.invariant-loop-x
invariant-loop-x l = record {
  are : l.rows ≡ command_starts l.first (take l.x-index l.x-items);
  sum : l.next ≡ l.first + total all_commands (take l.x-index l.x-items);
}
