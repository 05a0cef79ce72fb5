use Rattle.std.proofs.Common.{◌≤◌, drop, length}
use Rattle.zi_universe.specs.Lookups.{FindsStabilities}
use Rattle.zi_universe.proofs.wanted.stabilities_of.Given as goal

abbrev pub invariant-loop-left : goal.invariant-loop-left
invariant-loop-left l = record {
  in_range : l.left ≤ length l.overrides;
  found : FindsStabilities (drop l.left l.overrides) l.stabilities.entries;
}

abbrev pub decreases-loop-left : goal.decreases-loop-left
decreases-loop-left l = l.left
