use Rattle.std.proofs.Common.{take}
use Rattle.zi_choice.specs.Valid.{AreMet}
use Rattle.zi_check.specs.Parts.{universe_of, picks_of}
use Rattle.zi_check.proofs.meeting.are_all_met.Given as goal

abbrev pub invariant-loop-n : goal.invariant-loop-n
invariant-loop-n l = AreMet (universe_of l.on) (picks_of l.on) (take l.n l.deps)
