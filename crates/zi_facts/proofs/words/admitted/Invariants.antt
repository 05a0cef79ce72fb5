use Rattle.std.proofs.Common.{◌≡◌, take}
use Rattle.zi_build.specs.Clauses.{each}
use Rattle.zi_facts.specs.Lines.{admitted_number}
use Rattle.zi_facts.proofs.words.admitted.Given as goal

abbrev pub invariant-loop-e : goal.invariant-loop-e
invariant-loop-e l = l.numbers ≡ each 0 (admitted_number l.dep) (take l.e l.all)
