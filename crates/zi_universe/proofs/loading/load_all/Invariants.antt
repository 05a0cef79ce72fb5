use Rattle.std.proofs.Common.{[], ◌-◌, ◌^◌, length}
use Rattle.zi_outside.specs.Views.{holding}
use Rattle.zi_universe.specs.Loading.{store_of}
use Rattle.zi_universe.specs.Tables.{addresses}
use Rattle.zi_universe.specs.Stages.{IsAt}
use Rattle.zi_universe.specs.Asked.{GetsMore}
use Rattle.zi_universe.proofs.loading.load_all.Given as goal

abbrev pub invariant-loop-alloc : goal.invariant-loop-alloc
invariant-loop-alloc g l = record {
  at : IsAt (holding (g.F.Feeds.seen l.initial.feeds)) l.wanted.req l.wanted.policy (store_of l.wanted) l.state;
  got : GetsMore [] (addresses l.state.table) (g.F.Feeds.seen l.initial.feeds) (g.F.Feeds.seen l.feeds);
}

abbrev pub decreases-loop-alloc : goal.decreases-loop-alloc
decreases-loop-alloc g l = 2 ^ 63 - length l.state.done
