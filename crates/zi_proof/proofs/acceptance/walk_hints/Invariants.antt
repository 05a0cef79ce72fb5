use Rattle.std.proofs.Common.{◌≡◌, drop, length}
use Rattle.zi_proof.specs.Accepted.{walk, citable}
use Rattle.zi_proof.specs.Cells.{known_by}
use Rattle.zi_proof.proofs.acceptance.walk_hints.Given as goal

abbrev pub invariant-loop-i : goal.invariant-loop-i
invariant-loop-i l =
    (walk (citable l.f.constraints l.lemmas) (known_by l.marks) (drop l.i l.hints) ≡ walk (citable l.f.constraints l.lemmas) (known_by l.initial.marks) l.hints)
    × (length l.marks ≡ length l.initial.marks)
