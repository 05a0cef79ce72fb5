use Rattle.std.proofs.Common.{◌≡◌, ◌≤◌, ◌+◌, ◌-◌, length, true, []}
use Rattle.zi_proof.specs.Accepted.{citable, follows}
use Rattle.zi_proof.specs.Known.{nothing}
use Rattle.zi_sat.specs.Guard.{Ready}
use Rattle.zi_sat.specs.Fresh.{Filled, FreshAfter, Hushed}
use Rattle.zi_proof.specs.Lean.{AreLean}
use Rattle.zi_sat.specs.Moves.{Lawful}
use Rattle.zi_sat.specs.Behind.{Behind}
use Rattle.zi_sat.specs.Ends.{Longer}
use Rattle.zi_sat.proofs.rounds.seek.Given as goal

abbrev pub invariant-loop-marked : goal.invariant-loop-marked
invariant-loop-marked g l =
    (l.t.variables ≡ l.initial.t.variables) × (g.D.Decider.chooses l.d ≡ g.D.Decider.chooses l.initial.d) × (g.D.Decider.needs l.d ≡ g.D.Decider.needs l.initial.d)
    × (length l.proof.lemmas ≤ l.budget) × (follows l.f l.proof.lemmas ≡ true) × Lawful (citable l.f.constraints l.proof.lemmas) l.f.constraints (g.D.Decider.chooses l.initial.d l.f.variables) l.t.entries
    × AreLean l.f.constraints l.proof.lemmas × Filled l.proof.lemmas × FreshAfter l.f.constraints [] l.proof.lemmas × Hushed (citable l.f.constraints l.proof.lemmas) nothing l.t.entries
    × Ready l.w l.f l.proof.lemmas l.t.entries × (length l.marked ≡ l.t.variables + 1)
    × Behind (g.D.Decider.taken l.d) l.t.entries × Longer l.initial.proof.lemmas l.proof.lemmas

abbrev pub decreases-loop-marked : goal.decreases-loop-marked
decreases-loop-marked g l = l.budget + 1 - length l.proof.lemmas
