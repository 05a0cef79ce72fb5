use Rattle.std.proofs.Common.{length}
use Rattle.zi_words.proofs.StoreLemmas.{FilesRead}
use Rattle.zi_words.proofs.store.paths.Given as goal

abbrev pub invariant-loop-word : goal.invariant-loop-word
invariant-loop-word l = FilesRead l.words l.left l.files

abbrev pub decreases-loop-word : goal.decreases-loop-word
decreases-loop-word l = length l.left
