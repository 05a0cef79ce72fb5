use Rattle.std.proofs.Common.{◌≡◌, drop, length, map}
use Rattle.zi_formula.specs.Truth.{opposite}
use Rattle.zi_proof.specs.Accepted.{assume}
use Rattle.zi_proof.specs.Cells.{known_by}
use Rattle.zi_proof.proofs.acceptance.assume_opposites.Given as goal

abbrev pub invariant-loop-l : goal.invariant-loop-l
invariant-loop-l l =
    (assume (known_by l.marks) (map opposite (drop l.l-index l.lits)) ≡ assume (known_by l.initial.marks) (map opposite l.lits))
    × (length l.marks ≡ length l.initial.marks)
