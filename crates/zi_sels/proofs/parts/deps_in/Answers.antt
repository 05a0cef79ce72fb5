use Rattle.std.proofs.Common.{None}
use Rattle.std.specs.Prelude.{codes}
use Rattle.zi_reading.specs.Ways.{AsWritten}
use Rattle.zi_feed.specs.Feeds.{part_fault}
use Rattle.zi_parts.specs.Values.{dep_of}
use Rattle.zi_feed.specs.Means.{counts_as}
use Rattle.zi_sels.proofs.NoteLaws.{none_yet, next_read, all_read}
use Rattle.zi_sels.proofs.parts.deps_in.Goals as goal

pub loop-e-init : goal.loop-e-init
loop-e-init c = none_yet part_fault (dep_of AsWritten) (counts_as (codes "requires")) c.args.parts.now _ _ c.new-deps.ensures

pub loop-e-preserved : goal.loop-e-preserved
loop-e-preserved c =
    next_read part_fault (dep_of AsWritten) (counts_as (codes "requires")) c.args.parts.now c.loop-e.e-index c.e-item.result _ _ _ _ _ _
    c.loop-e-test.true c.e-item.is c.loop-e.invariant c.in_ok-take_dep.ensures

pub returns : goal.returns
returns c = all_read part_fault (dep_of AsWritten) (counts_as (codes "requires")) c.args.parts.now c.loop-e.e-index _ _ _ _ c.loop-e-test.false c.loop-e.invariant
