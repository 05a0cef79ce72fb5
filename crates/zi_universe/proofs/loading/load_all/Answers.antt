use Rattle.std.proofs.Common.{[], ◌≤◌, List, Option, length, sym, subst, arith}
use Rattle.std.proofs.lemmas.Result.{err_from_is_err_and}
use Rattle.zi_feed.specs.declared.feed.Feed.{Feed}
use Rattle.zi_outside.specs.Views.{Holding, holding}
use Rattle.zi_universe.specs.declared.types.Requirement.{Requirement}
use Rattle.zi_universe.specs.Loading.{store_of}
use Rattle.zi_universe.specs.Tables.{addresses}
use Rattle.zi_universe.specs.Loading.{task_of}
use Rattle.zi_universe.specs.Stages.{IsAt, IsBegun, LoadsNext}
use Rattle.zi_universe.specs.Asked.{GetsMore}
use Rattle.zi_universe.proofs.NextLemmas.{at_begun}
use Rattle.zi_universe.proofs.AskedLemmas.{gets_none, gets_more, holding_got}
use Rattle.zi_universe.proofs.StopsLemmas.{refuses_first, refuses_all, loads_all}
use Rattle.zi_universe.proofs.loading.load_all.Goals as goal

pub returns-in_err-state : goal.returns-in_err-state
returns-in_err-state g c =
    let q = err_from_is_err_and c.from_residual.result c.from_residual.ensures.1 in
    rw (q.1, q.2) (record { all = refuses_first (task_of c.args.wanted.now) (g.F.Feeds.seen c.args.feeds.now) })

pub loop-alloc-init : goal.loop-alloc-init
loop-alloc-init g c =
    let seen = g.F.Feeds.seen c.args.feeds.now in
    let P : List Feed → Type 0 = λ q. GetsMore [] (addresses q) seen seen in
    let R : Requirement → Type 0 = λ r. IsBegun r.interface c.in_ok-state.state in
    record {
      at = at_begun (holding seen) c.args.wanted.now.req c.args.wanted.now.policy (store_of c.args.wanted.now) c.in_ok-state.state (subst R c.req.ensures c.in_ok-state.ensures);
      got = subst P (sym c.in_ok-state.ensures.table) (gets_none [] seen);
    }

pub load_next-requires-clause-at : goal.load_next-requires-clause-at
load_next-requires-clause-at g c =
    let seen = g.F.Feeds.seen c.args.feeds.now in
    let same = holding_got [] (addresses c.loop-alloc.state.table) seen (g.F.Feeds.seen c.loop-alloc.feeds) c.loop-alloc.invariant.got in
    let P : Option Holding → Type 0 = λ q. IsAt q c.args.wanted.now.req c.args.wanted.now.policy (store_of c.args.wanted.now) c.loop-alloc.state in
    subst P (sym same) c.loop-alloc.invariant.at

pub loop-alloc-preserved : goal.loop-alloc-preserved
loop-alloc-preserved g c =
    let seen = g.F.Feeds.seen c.args.feeds.now in
    let mid = g.F.Feeds.seen c.loop-alloc.feeds in
    let same = holding_got [] (addresses c.loop-alloc.state.table) seen mid c.loop-alloc.invariant.got in
    let P : Option Holding → Type 0 = λ q. LoadsNext q c.args.wanted.now.req c.args.wanted.now.policy (store_of c.args.wanted.now) c.loop-alloc.state c.load_next.new.state in
    record {
      at = (subst P same c.in_ok-load_next.ensures.next).at;
      got = gets_more [] (addresses c.loop-alloc.state.table) (addresses c.load_next.new.state.table) seen mid (g.F.Feeds.seen c.load_next.new.feeds)
          c.loop-alloc.invariant.got c.in_ok-load_next.ensures.asks;
    }

pub returns : goal.returns
returns g c =
    let s = c.loop-alloc.state in
    record {
      all = loads_all (task_of c.args.wanted.now) s (g.F.Feeds.seen c.args.feeds.now) (g.F.Feeds.seen c.loop-alloc.feeds)
          c.loop-alloc.invariant.at (let le : length s.names.keys ≤ length s.done = omega arith in le) c.loop-alloc.invariant.got;
    }

pub returns-in_err-load_next : goal.returns-in_err-load_next
returns-in_err-load_next g c =
    let q = err_from_is_err_and c.from_residual-in_err-load_next.result c.from_residual-in_err-load_next.ensures.1 in
    rw (q.1, q.2)
    (record {
      all = refuses_all (task_of c.args.wanted.now) (addresses c.loop-alloc.state.table) (g.F.Feeds.seen c.args.feeds.now) (g.F.Feeds.seen c.loop-alloc.feeds) (g.F.Feeds.seen c.load_next.new.feeds)
          c.in_err-load_next.field-0.0 c.loop-alloc.invariant.got c.in_err-load_next.ensures.next;
    })
