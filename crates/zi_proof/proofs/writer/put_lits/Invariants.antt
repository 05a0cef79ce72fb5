use Rattle.std.proofs.Common.{◌≡◌, ◌++◌, map, take}
use Rattle.zi_proof.specs.ProofText.{behind, lit_word}
use Rattle.zi_proof.proofs.writer.put_lits.Given as goal

abbrev pub invariant-loop-l : goal.invariant-loop-l
invariant-loop-l l = l.into.items ≡ l.initial.into.items ++ behind 32 (map lit_word (take l.l-index l.lits))
