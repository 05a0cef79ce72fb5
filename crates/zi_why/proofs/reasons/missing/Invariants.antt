use Rattle.zi_why.specs.Known.{universe_of}
use Rattle.zi_why.specs.Reasons.{is_beyond}
use Rattle.zi_why.proofs.FindLaws.{LeftFinds}
use Rattle.zi_why.proofs.reasons.missing.Given as goal

abbrev pub invariant-loop-n : goal.invariant-loop-n
invariant-loop-n l = LeftFinds (is_beyond (universe_of l.on)) l.k.imp.deps l.n
