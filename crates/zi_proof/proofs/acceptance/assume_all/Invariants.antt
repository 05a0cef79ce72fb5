use Rattle.std.proofs.Common.{◌≡◌, drop, length}
use Rattle.zi_proof.specs.Accepted.{assume}
use Rattle.zi_proof.specs.Cells.{known_by}
use Rattle.zi_proof.proofs.acceptance.assume_all.Given as goal

abbrev pub invariant-loop-l : goal.invariant-loop-l
invariant-loop-l l =
    (assume (known_by l.marks) (drop l.l-index l.lits) ≡ assume (known_by l.initial.marks) l.lits)
    × (length l.marks ≡ length l.initial.marks)
