use Rattle.std.proofs.Common.{◌-◌, ◌^◌}
use Rattle.zi_outside.specs.Views.{holding}
use Rattle.zi_universe.specs.Tables.{addresses}
use Rattle.zi_universe.specs.Stages.{HasListed}
use Rattle.zi_universe.specs.Asked.{GetsMore}
use Rattle.zi_universe.proofs.feeds.list_feeds.Given as goal

abbrev pub invariant-loop-n : goal.invariant-loop-n
invariant-loop-n g l = record {
  listed : HasListed (holding (g.F.Feeds.seen l.initial.feeds)) l.root l.policy l.interface l.initial.table l.here.keys l.n l.table;
  got : GetsMore (addresses l.initial.table) (addresses l.table) (g.F.Feeds.seen l.initial.feeds) (g.F.Feeds.seen l.feeds);
}

abbrev pub decreases-loop-n : goal.decreases-loop-n
decreases-loop-n g l = 2 ^ 63 - l.n
