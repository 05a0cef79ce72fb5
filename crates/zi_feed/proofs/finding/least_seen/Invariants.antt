use Rattle.std.proofs.Common.{◌≡◌, map}
use Rattle.std.specs.Prelude.{option_copied}
use Rattle.std.specs.List.{flat_map}
use Rattle.zi_reading.specs.Ways.{ways_of}
use Rattle.zi_faults.specs.Faults.{least, lesser_of}
use Rattle.zi_faults.specs.Carrying.{faults_seen, seen_view}
use Rattle.zi_feed.proofs.FindingLaws.{least_left}
use Rattle.zi_feed.proofs.finding.least_seen.Given as goal

abbrev pub invariant-loop-site : goal.invariant-loop-site
invariant-loop-site l =
    lesser_of l.found (least_left (ways_of l.fn.ways) l.seen l.site-index) ≡ least (flat_map (faults_seen (ways_of l.fn.ways)) (map seen_view l.seen))
