use Rattle.zi_conflict.proofs.MarkLaws.{GoneBack}
use Rattle.zi_conflict.proofs.resting.resting.Given as goal

abbrev pub invariant-loop-k : goal.invariant-loop-k
invariant-loop-k l = GoneBack l.count l.lemmas l.k l.marks.items
