use Rattle.std.proofs.Common.{◌≡◌, drop, length}
use Rattle.zi_proof.specs.Cells.{known_by}
use Rattle.zi_sat.specs.Trail.{learn}
use Rattle.zi_solve.proofs.replaying.assume.Given as goal

abbrev pub invariant-loop-l : goal.invariant-loop-l
invariant-loop-l l = record {
  known : learn (known_by l.marks) (drop l.l-index l.lits) ≡ learn (known_by l.initial.marks) l.lits;
  same : length l.marks ≡ length l.initial.marks;
}
