use Rattle.std.proofs.Common.{◌≡◌, ◌++◌, map, drop}
use Rattle.zi_plan.specs.Launches.{in_shims, shims_exposed}
use Rattle.zi_plan.specs.Steps.{bound_seen}
use Rattle.zi_plan.proofs.applying.shims_exposed.Given as goal

abbrev pub invariant-loop-bound : goal.invariant-loop-bound
invariant-loop-bound l =
    shims_exposed (in_shims (map bound_seen l.bounds) l.shims) ≡ l.dirs ++ shims_exposed (in_shims (drop l.bound-index (map bound_seen l.bounds)) l.rest)
