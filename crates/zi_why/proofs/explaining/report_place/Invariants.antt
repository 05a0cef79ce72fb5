use Rattle.std.proofs.Common.{take}
use Rattle.zi_choice.specs.Vars.{candidates_of}
use Rattle.zi_why.specs.Known.{universe_of}
use Rattle.zi_why.specs.Taking.{Took, place_at}
use Rattle.zi_why.proofs.TakeLaws.{due_few}
use Rattle.zi_why.proofs.explaining.report_place.Given as goal

abbrev pub invariant-loop-c : goal.invariant-loop-c
invariant-loop-c l = Took l.on (due_few l.on (place_at l.on l.at) l.i (take l.c (candidates_of (universe_of l.on) l.i))) l.initial.reports l.reports
