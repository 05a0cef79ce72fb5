use Rattle.std.proofs.Common.{◌≡◌, ◌++◌, map, take}
use Rattle.zi_proof.specs.ProofText.{lines_text, block_line}
use Rattle.zi_proof.proofs.writer.put_blocks.Given as goal

abbrev pub invariant-loop-b : goal.invariant-loop-b
invariant-loop-b l = l.into.items ≡ l.initial.into.items ++ lines_text (map block_line (take l.b-index l.blocks))
