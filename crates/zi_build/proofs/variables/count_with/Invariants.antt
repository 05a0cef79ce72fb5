use Rattle.std.proofs.Common.{◌≡◌, ◌≤◌, ◌+◌, take}
use Rattle.zi_choice.specs.Vars.{total, own_commands}
use Rattle.zi_build.proofs.variables.count_with.Given as goal

abbrev pub invariant-loop-k : goal.invariant-loop-k
invariant-loop-k l = record {
  sum : l.n ≡ l.before + total own_commands (take l.k-index l.candidates);
  few : l.n ≤ 4000000;
}
