use Rattle.std.proofs.Common.{◌≤◌, drop, length}
use Rattle.zi_universe.specs.Lookups.{FindsLimits}
use Rattle.zi_universe.proofs.wanted.limits_of.Given as goal

abbrev pub invariant-loop-left : goal.invariant-loop-left
invariant-loop-left l = record {
  in_range : l.left ≤ length l.limits;
  found : FindsLimits (drop l.left l.limits) l.by_interface.entries;
}

abbrev pub decreases-loop-left : goal.decreases-loop-left
decreases-loop-left l = l.left
