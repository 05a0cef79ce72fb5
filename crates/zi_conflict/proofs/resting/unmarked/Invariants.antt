use Rattle.std.proofs.Common.{◌≡◌, replicate, false}
use Rattle.zi_conflict.proofs.resting.unmarked.Given as goal

abbrev pub invariant-loop-i : goal.invariant-loop-i
invariant-loop-i l = l.marks.items ≡ replicate l._i false
