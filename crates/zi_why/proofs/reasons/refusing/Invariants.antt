use Rattle.zi_why.specs.Known.{as_owned}
use Rattle.zi_why.specs.Reasons.{refuses}
use Rattle.zi_why.proofs.FindLaws.{LeftFinds}
use Rattle.zi_why.proofs.reasons.refusing.Given as goal

abbrev pub invariant-loop-owned : goal.invariant-loop-owned
invariant-loop-owned l = LeftFinds (λ o. refuses l.k (as_owned o)) l.bearing l.owned-index
