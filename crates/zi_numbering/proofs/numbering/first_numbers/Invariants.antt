use Rattle.std.proofs.Common.{◌≡◌, ◌+◌, take}
use Rattle.zi_choice.specs.Vars.{total, own_candidates}
use Rattle.zi_build.specs.Writing.{starts}
use Rattle.zi_numbering.proofs.numbering.first_numbers.Given as goal

abbrev pub invariant-loop-x : goal.invariant-loop-x
invariant-loop-x l = record {
  are : l.numbers ≡ starts own_candidates 1 (take l.x-index l.x-items);
  sum : l.next ≡ 1 + total own_candidates (take l.x-index l.x-items);
}
