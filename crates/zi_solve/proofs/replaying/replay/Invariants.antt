use Rattle.std.proofs.Common.{◌≡◌, ◌++◌, drop, length}
use Rattle.zi_proof.specs.Cells.{known_by}
use Rattle.zi_proof.specs.Accepted.{citable}
use Rattle.zi_walk.proofs.Replay.{replay}
use Rattle.zi_solve.proofs.replaying.replay.Given as goal

abbrev pub invariant-loop-i : goal.invariant-loop-i
invariant-loop-i l = record {
  left : l.hints ++ replay (citable l.f.constraints l.lemmas) (known_by l.marks) (drop l.i l.t.entries) ≡ replay (citable l.f.constraints l.lemmas) (known_by l.initial.marks) l.t.entries;
  same : length l.marks ≡ length l.initial.marks;
}
