use Rattle.std.proofs.Common.{◌≡◌, ◌++◌, drop}
use Rattle.zi_feed.proofs.FindingLaws.{imports_left}
use Rattle.zi_feed.proofs.finding.imports_of.Given as goal

abbrev pub invariant-loop-site : goal.invariant-loop-site
invariant-loop-site l = l.imports ++ imports_left l.fn.uri (drop l.site-index l.seen) ≡ imports_left l.fn.uri l.seen
