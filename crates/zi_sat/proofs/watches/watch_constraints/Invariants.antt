use Rattle.std.proofs.Common.{◌≡◌, ◌≤◌, ◌+◌, ◌*◌, length, take}
use Rattle.zi_sat.specs.Guard.{AllHeld}
use Rattle.zi_sat.proofs.watches.watch_constraints.Given as goal

abbrev pub invariant-loop-i : goal.invariant-loop-i
invariant-loop-i l =
    (l.w.seen ≡ 0) × (length l.w.pairs ≡ l.i) × (l.f.variables * 2 + 2 ≤ length l.w.rows) × AllHeld l.w (take l.i l.f.constraints)
