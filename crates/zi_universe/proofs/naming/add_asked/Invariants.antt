use Rattle.std.proofs.Common.{◌≡◌, drop}
use Rattle.zi_universe.specs.Candidates.{asked_by_all}
use Rattle.zi_universe.specs.Naming.{joined}
use Rattle.zi_universe.specs.Offering.{candidates_of, AreNamed}
use Rattle.zi_universe.proofs.naming.add_asked.Given as goal

abbrev pub invariant-loop-one : goal.invariant-loop-one
invariant-loop-one l = record {
  names : joined l.names.keys (asked_by_all (candidates_of (drop l.one-index l.offered))) ≡ joined l.fn.names.keys (asked_by_all (candidates_of l.offered));
  named : AreNamed l.feeds l.named.keys l.names.keys;
}
