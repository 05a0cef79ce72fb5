use Rattle.std.proofs.Common.{◌≡◌, map, take}
use Rattle.zi_facts.specs.Facts.{as_told, told_at}
use Rattle.zi_conflict.proofs.conflicting.at_numbers.Given as goal

abbrev pub invariant-loop-n : goal.invariant-loop-n
invariant-loop-n l = map as_told l.facts ≡ map (told_at (map as_told l.all)) (take l.n-index l.numbers)
