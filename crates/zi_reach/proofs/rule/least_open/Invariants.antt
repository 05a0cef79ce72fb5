use Rattle.std.proofs.Common.{◌≡◌, ◌≤◌, ℕ, None, false}
use Rattle.zi_proof.specs.Known.{is_open}
use Rattle.zi_sat.specs.Trail.{known_from}
use Rattle.zi_sat.specs.Least.{least_open}
use Rattle.zi_reach.proofs.rule.least_open.Given as goal

abbrev pub invariant-loop-x : goal.invariant-loop-x
invariant-loop-x l =
    (least_open l.x (known_from l.t.entries) ≡ None) × ((y : ℕ) → 1 ≤ y → y ≤ l.x → is_open (known_from l.t.entries y) ≡ false)
