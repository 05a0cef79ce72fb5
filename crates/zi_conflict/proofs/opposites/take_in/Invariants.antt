use Rattle.std.proofs.Common.{◌≡◌, take}
use Rattle.zi_conflict.proofs.opposites.take_in.Given as goal

abbrev pub invariant-loop-n : goal.invariant-loop-n
invariant-loop-n l = l.taken.items ≡ take l.n l.t.entries
