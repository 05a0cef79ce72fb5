use Rattle.std.proofs.Common.{◌≡◌, drop, map, filter}
use Rattle.zi_universe.specs.Candidates.{is_followed}
use Rattle.zi_universe.specs.Naming.{joined}
use Rattle.zi_universe.proofs.naming.add_imports.Given as goal

abbrev pub invariant-loop-import : goal.invariant-loop-import
invariant-loop-import l = joined l.names.keys (map (λ m. m.uri) (filter (is_followed l.policy) (drop l.import-index l.import-items))) ≡ joined l.fn.names.keys (map (λ m. m.uri) (filter (is_followed l.policy) l.import-items))
