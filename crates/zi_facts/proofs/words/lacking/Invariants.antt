use Rattle.std.proofs.Common.{◌≡◌, take}
use Rattle.zi_build.specs.Clauses.{each}
use Rattle.zi_facts.specs.Lines.{lacking_number}
use Rattle.zi_facts.proofs.words.lacking.Given as goal

abbrev pub invariant-loop-e : goal.invariant-loop-e
invariant-loop-e l = l.numbers ≡ each 0 (lacking_number l.dep l.name) (take l.e l.all)
