use Rattle.zi_store.proofs.LineLemmas.{SameSoFar}
use Rattle.zi_store.proofs.difference.first_difference.Given as goal

abbrev pub invariant-loop-i : goal.invariant-loop-i
invariant-loop-i l = SameSoFar l.a l.b l.i l.line
