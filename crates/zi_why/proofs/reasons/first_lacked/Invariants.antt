use Rattle.zi_why.specs.Reasons.{lacks}
use Rattle.zi_why.proofs.FindLaws.{LeftFinds}
use Rattle.zi_why.proofs.reasons.first_lacked.Given as goal

abbrev pub invariant-loop-name : goal.invariant-loop-name
invariant-loop-name l = LeftFinds (lacks l.p.is.now) l.names l.name-index
