use Rattle.std.proofs.Common.{◌≡◌, drop}
use Rattle.std.specs.List.{list_any}
use Rattle.zi_fetching.specs.Known.{is_known}
use Rattle.zi_fetching.proofs.stored.holds_any.Given as goal

abbrev pub invariant-loop-digest : goal.invariant-loop-digest
invariant-loop-digest l = list_any (is_known l.names.keys) (drop l.digest-index l.digests) ≡ list_any (is_known l.names.keys) l.digests
