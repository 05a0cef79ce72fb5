use Rattle.zi_why.specs.Known.{universe_of, picks_of, before}
use Rattle.zi_why.specs.Reasons.{is_against}
use Rattle.zi_why.proofs.FindLaws.{LeftFinds}
use Rattle.zi_why.proofs.reasons.against.Given as goal

abbrev pub invariant-loop-n : goal.invariant-loop-n
invariant-loop-n l = LeftFinds (is_against (universe_of l.on) (picks_of l.on) (before l.on l.at) l.p.interface l.p.is.now) l.p.is.now.imp.deps l.n
