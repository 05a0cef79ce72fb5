use Rattle.std.proofs.Common.{◌≡◌, drop}
use Rattle.zi_universe.specs.Candidates.{asked}
use Rattle.zi_universe.specs.Naming.{joined}
use Rattle.zi_universe.proofs.naming.add_own.Given as goal

abbrev pub invariant-loop-i : goal.invariant-loop-i
invariant-loop-i l = joined l.names.keys (asked (drop l.i l.level.deps)) ≡ joined l.fn.names.keys (asked (drop l.level.around l.level.deps))
