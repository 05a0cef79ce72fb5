use Rattle.zi_storing.proofs.GatheringLemmas.{Stands}
use Rattle.zi_storing.proofs.gathering.tree_of.Given as goal

abbrev pub invariant-loop-part : goal.invariant-loop-part
invariant-loop-part l = Stands l.yielded l.tree
