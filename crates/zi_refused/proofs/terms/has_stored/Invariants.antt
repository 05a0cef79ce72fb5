use Rattle.std.proofs.Common.{◌≡◌, drop}
use Rattle.std.specs.List.{list_any}
use Rattle.zi_digest.specs.Name.{spelling}
use Rattle.zi_universe.specs.Naming.{in_set}
use Rattle.zi_refused.proofs.terms.has_stored.Given as goal

abbrev pub invariant-loop-digest : goal.invariant-loop-digest
invariant-loop-digest l = list_any (λ d. in_set l.stored.keys (spelling d)) (drop l.digest-index l.digests) ≡ list_any (λ d. in_set l.stored.keys (spelling d)) l.digests
