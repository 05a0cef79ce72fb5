use Rattle.std.proofs.Common.{◌≡◌, drop}
use Rattle.zi_universe.specs.Lookups.{all_admit}
use Rattle.zi_universe.proofs.wanted.all_admit.Given as goal

abbrev pub invariant-loop-limit : goal.invariant-loop-limit
invariant-loop-limit l = all_admit (drop l.limit-index l.limits) l.version ≡ all_admit l.limits l.version
