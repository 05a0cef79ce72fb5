use Rattle.std.proofs.Common.{◌≡◌, ◌≤◌, take}
use Rattle.zi_choice.specs.Vars.{total, all_commands}
use Rattle.zi_build.proofs.variables.count_commands.Given as goal

abbrev pub invariant-loop-x : goal.invariant-loop-x
invariant-loop-x l = record {
  sum : l.n ≡ total all_commands (take l.x-index l.x-items);
  few : l.n ≤ 4000000;
}
