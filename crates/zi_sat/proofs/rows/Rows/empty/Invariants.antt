use Rattle.std.proofs.Common.{◌≡◌, ℕ, length, map, []}
use Rattle.zi_sat.specs.Rows.{row_at}
use Rattle.zi_sat.proofs.rows.Rows.empty.Given as goal

abbrev pub invariant-loop-i : goal.invariant-loop-i
invariant-loop-i l =
    (length l.rows.items ≡ l._i) × ((r : ℕ) → row_at (map (λ w. w.items) l.rows.items) r ≡ [])
