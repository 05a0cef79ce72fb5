use Rattle.std.proofs.Common.{sym, subst, option_copied}
use Rattle.zi_reading.specs.Ways.{ways_of}
use Rattle.zi_faults.specs.declared.carrying.Seen.{Seen}
use Rattle.zi_faults.specs.Carrying.{IsChecked}
use Rattle.zi_feed.proofs.FindingLaws.{fault_next, fault_end}
use Rattle.zi_feed.proofs.finding.least_seen.Goals as goal

pub fault_with-requires : goal.fault_with-requires
fault_with-requires c =
    let P : Seen → Type 0 = λ x. IsChecked (ways_of c.args.ways) x.said in
    subst P (sym c.site-item.is) (c.requires c.loop-site.site-index c.site-item.result c.loop-site-test.true)

pub loop-site-preserved : goal.loop-site-preserved
loop-site-preserved c = fault_next _ _ _ _ _ _ _ _ c.loop-site-test.true c.site-item.is c.in_ok-fault.ensures c.lesser_of-found.ensures c.loop-site.invariant

pub returns : goal.returns
returns c = fault_end _ _ _ _ _ c.loop-site-test.false c.loop-site.invariant
