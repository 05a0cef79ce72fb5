use Rattle.std.proofs.Common.{◌≡◌, ◌+◌, take}
use Rattle.zi_choice.specs.Vars.{total, own_commands}
use Rattle.zi_build.specs.Writing.{starts}
use Rattle.zi_build.proofs.variables.numbers_from.Given as goal

abbrev pub invariant-loop-k : goal.invariant-loop-k
invariant-loop-k l = record {
  are : l.numbers ≡ starts own_commands l.first (take l.k-index l.candidates);
  sum : l.next ≡ l.first + total own_commands (take l.k-index l.candidates);
}
