use Rattle.std.proofs.Common.{◌≡◌, ◌≤◌, ◌<◌, length, take}
use Rattle.zi_proof.specs.Known.{Known}
use Rattle.zi_proof.specs.Accepted.{citable}
use Rattle.zi_sat.specs.Trail.{known_from}
use Rattle.zi_sat.specs.Moves.{Added}
use Rattle.zi_sat.specs.Marking.{Inside}
use Rattle.zi_sat.specs.Rows.{row_at}
use Rattle.zi_sat.specs.Guard.{pair_at, Each, AllHeld, AllGuard, AllCalm}
use Rattle.zi_sat.proofs.VisitLaws.{Partly}
use Rattle.zi_sat.proofs.watches.visit.Given as goal

abbrev pub invariant-loop-j : goal.invariant-loop-j
invariant-loop-j l =
    (l.t.variables ≡ l.fn.t.variables) × (length l.w.rows ≡ length l.fn.w.rows) × (length l.w.pairs ≡ length l.fn.w.pairs)
    × (l.w.seen ≡ l.fn.w.seen) × Added (citable l.f.constraints l.lemmas) l.fn.t.entries l.t.entries
    × Inside (known_from l.fn.t.entries) (known_from l.t.entries)
    × AllHeld l.w (citable l.f.constraints l.lemmas)
    × ((q : Known) → Inside q (known_from l.fn.t.entries) → AllGuard q (known_from l.fn.t.entries) l.fn.w (citable l.f.constraints l.lemmas) → Each (citable l.f.constraints l.lemmas) (λ n c. Partly q (known_from l.t.entries) l.l (take l.j (row_at l.w.rows l.r)) n (pair_at l.w.pairs n) c))
    × AllCalm l.w l.t.entries (citable l.f.constraints l.lemmas)
    × (l.j ≤ length (row_at l.w.rows l.r)) × (l.r < length l.w.rows)

abbrev pub decreases-loop-j : goal.decreases-loop-j
decreases-loop-j l = l.j
