use Rattle.std.proofs.Common.{◌≡◌, ◌++◌, map, take}
use Rattle.zi_proof.specs.ProofText.{lines_text, lemma_line}
use Rattle.zi_proof.proofs.writer.put_lemmas.Given as goal

abbrev pub invariant-loop-m : goal.invariant-loop-m
invariant-loop-m l = l.into.items ≡ l.initial.into.items ++ lines_text (map lemma_line (take l.m-index l.lemmas))
