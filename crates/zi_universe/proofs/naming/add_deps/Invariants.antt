use Rattle.std.proofs.Common.{◌≡◌, drop}
use Rattle.zi_universe.specs.Candidates.{asked}
use Rattle.zi_universe.specs.Naming.{joined}
use Rattle.zi_universe.proofs.naming.add_deps.Given as goal

abbrev pub invariant-loop-dep : goal.invariant-loop-dep
invariant-loop-dep l = joined l.names.keys (asked (drop l.dep-index l.deps)) ≡ joined l.fn.names.keys (asked l.deps)
