use Rattle.std.proofs.Common.{◌≡◌, drop}
use Rattle.zi_sat.specs.Trail.{known_from}
use Rattle.zi_walk.proofs.OpenLaws.{opened}
use Rattle.zi_walk.proofs.open.first_open.Given as goal

abbrev pub invariant-loop-p : goal.invariant-loop-p
invariant-loop-p l =
    opened l.n (known_from l.t.entries) (drop l.p-index l.places) ≡ opened l.n (known_from l.t.entries) l.places
