use Rattle.std.proofs.Common.{◌≡◌, ◌++◌, map, drop}
use Rattle.std.specs.List.{filter}
use Rattle.zi_faults.specs.Faults.{counts}
use Rattle.zi_reading.specs.Views.{views}
use Rattle.zi_faults.specs.Carrying.{seen_view}
use Rattle.zi_feed.proofs.finding.counting.Given as goal

abbrev pub invariant-loop-site : goal.invariant-loop-site
invariant-loop-site l =
    views l.found.items ++ filter counts (map (λ x. x.0) (map seen_view (drop l.site-index l.seen))) ≡ filter counts (map (λ x. x.0) (map seen_view l.seen))
