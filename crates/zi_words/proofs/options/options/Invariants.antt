use Rattle.std.proofs.Common.{length}
use Rattle.zi_words.proofs.TurnLemmas.{Reads}
use Rattle.zi_words.proofs.options.options.Given as goal

abbrev pub invariant-loop-kind : goal.invariant-loop-kind
invariant-loop-kind l = Reads l.loader l.words l.left l.asked l.pairs

abbrev pub decreases-loop-kind : goal.decreases-loop-kind
decreases-loop-kind l = length l.left
