use Rattle.std.proofs.Common.{◌≡◌, ◌++◌, drop, map}
use Rattle.zi_formula.specs.Truth.{opposite}
use Rattle.zi_proof.specs.Cells.{known_by}
use Rattle.zi_sat.specs.Trail.{lits_of}
use Rattle.zi_sat.specs.Marking.{among}
use Rattle.zi_sat.proofs.analysis.opposites.Given as goal

abbrev pub invariant-loop-place : goal.invariant-loop-place
invariant-loop-place l =
    l.lits ++ map opposite (among (known_by l.marked) (lits_of (drop l.place l.t.entries))) ≡ map opposite (among (known_by l.marked) (lits_of l.t.entries))
