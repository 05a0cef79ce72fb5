use Rattle.zi_why.specs.Known.{as_owned}
use Rattle.zi_why.specs.Reasons.{lacks, named_of}
use Rattle.zi_why.proofs.FindLaws.{LeftFlat}
use Rattle.zi_why.proofs.reasons.lacked_below.Given as goal

abbrev pub invariant-loop-o : goal.invariant-loop-o
invariant-loop-o l = LeftFlat (lacks l.p.is.now) (λ o. named_of (as_owned o)) l.bearing l.o-index
