use Rattle.zi_choice.specs.Vars.{candidates_of}
use Rattle.zi_why.specs.Known.{universe_of}
use Rattle.zi_why.specs.Reasons.{does_suit}
use Rattle.zi_why.proofs.FindLaws.{LeftAny}
use Rattle.zi_why.proofs.reasons.some_suits.Given as goal

abbrev pub invariant-loop-c : goal.invariant-loop-c
invariant-loop-c l = LeftAny (does_suit l.dep) (candidates_of (universe_of l.on) l.j) l.c
