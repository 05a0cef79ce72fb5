use Rattle.std.proofs.Common.{◌≡◌, take}
use Rattle.zi_sat.specs.Trail.{known_from}
use Rattle.zi_walk.specs.Rule.{chosen_from}
use Rattle.zi_walk.proofs.open.so_far.Given as goal

abbrev pub invariant-loop-i : goal.invariant-loop-i
invariant-loop-i l = l.picks ≡ chosen_from l.n (known_from l.t.entries) 0 (take l.i l.n)
