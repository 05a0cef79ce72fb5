use Rattle.std.proofs.Common.{◌≡◌, length, ℕ, []}
use Rattle.zi_why.specs.Known.{row_at}
use Rattle.zi_why.proofs.known.rows.Given as goal

abbrev pub invariant-loop-i : goal.invariant-loop-i
invariant-loop-i l = record {
  len : length l.rows.items ≡ l._i;
  none : (q : ℕ) → row_at l.rows.items q ≡ [];
}
