use Rattle.std.proofs.Common.{◌≡◌, take}
use Rattle.zi_build.specs.Clauses.{each}
use Rattle.zi_facts.specs.Lines.{own_number}
use Rattle.zi_facts.proofs.lining.own_numbers.Given as goal

abbrev pub invariant-loop-e : goal.invariant-loop-e
invariant-loop-e l = l.numbers ≡ each 0 own_number (take l.e l.all)
