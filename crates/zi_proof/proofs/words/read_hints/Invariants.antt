use Rattle.std.proofs.Common.{◌≡◌, length}
use Rattle.zi_proof.specs.Reading.{hints_of}
use Rattle.zi_proof.proofs.ReadingLaws.{hints_behind}
use Rattle.zi_proof.proofs.words.read_hints.Given as goal

abbrev pub invariant-loop-word : goal.invariant-loop-word
invariant-loop-word l = hints_behind l.hints (hints_of l.words) ≡ hints_of l.initial.words

abbrev pub decreases-loop-word : goal.decreases-loop-word
decreases-loop-word l = length l.words
