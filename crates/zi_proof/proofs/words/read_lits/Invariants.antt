use Rattle.std.proofs.Common.{◌≡◌, length}
use Rattle.zi_proof.specs.Reading.{lits_of}
use Rattle.zi_proof.proofs.ReadingLaws.{lits_behind}
use Rattle.zi_proof.proofs.words.read_lits.Given as goal

abbrev pub invariant-loop-word : goal.invariant-loop-word
invariant-loop-word l = lits_behind l.lits (lits_of l.words) ≡ lits_of l.initial.words

abbrev pub decreases-loop-word : goal.decreases-loop-word
decreases-loop-word l = length l.words
