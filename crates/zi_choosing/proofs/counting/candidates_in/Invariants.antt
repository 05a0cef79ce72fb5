use Rattle.std.proofs.Common.{◌≡◌, ◌+◌, drop}
use Rattle.zi_universe.specs.Whole.{candidates_in}
use Rattle.zi_choosing.proofs.counting.candidates_in.Given as goal

abbrev pub invariant-loop-interface : goal.invariant-loop-interface
invariant-loop-interface l = l.count + candidates_in (drop l.interface-index l.interfaces) ≡ candidates_in l.interfaces
