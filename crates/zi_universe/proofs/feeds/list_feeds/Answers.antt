use Rattle.std.proofs.Common.{Option, sym, subst}
use Rattle.std.proofs.lemmas.Result.{err_from_is_err_and}
use Rattle.zi_outside.specs.Views.{Holding, holding}
use Rattle.zi_universe.specs.Naming.{Uris}
use Rattle.zi_universe.specs.Tables.{addresses}
use Rattle.zi_universe.specs.Stages.{HasListed}
use Rattle.zi_universe.specs.Listing.{ListsNext}
use Rattle.zi_universe.specs.Asked.{LeavesNext}
use Rattle.zi_universe.proofs.ListingLemmas.{listed_begins, listed_next}
use Rattle.zi_universe.proofs.AskedLemmas.{gets_none, gets_more, holding_got, ends_begun, leaves_listing}
use Rattle.zi_universe.proofs.feeds.list_feeds.Goals as goal

pub returns-in_err-here-clause-listed : goal.returns-in_err-here-clause-listed
returns-in_err-here-clause-listed g c =
    let seen = g.F.Feeds.seen c.args.feeds.now in
    let q = err_from_is_err_and c.from_residual.result c.from_residual.ensures.1 in
    rw (q.1, q.2) (ends_begun (holding seen) c.args.root.now c.args.policy.now c.args.interface.now c.args.table.now seen c.requires)

pub loop-n-init : goal.loop-n-init
loop-n-init g c =
    let seen = g.F.Feeds.seen c.args.feeds.now in
    let P : Uris → Type 0 = λ q. HasListed (holding seen) c.args.root.now c.args.policy.now c.args.interface.now c.args.table.now q 0 c.args.table.now in
    record {
      listed = subst P (sym c.in_ok-here.ensures) (listed_begins (holding seen) c.args.root.now c.args.policy.now c.args.interface.now c.args.table.now c.requires);
      got = gets_none (addresses c.args.table.now) seen;
    }

pub returns-in_err-list_next-clause-listed : goal.returns-in_err-list_next-clause-listed
returns-in_err-list_next-clause-listed g c =
    let seen = g.F.Feeds.seen c.args.feeds.now in
    let mid = g.F.Feeds.seen c.loop-n.feeds in
    let new = g.F.Feeds.seen c.list_next.new.feeds in
    let e = c.in_err-list_next.field-0.0 in
    let here = c.loop-n.here.keys in
    let same = holding_got (addresses c.args.table.now) (addresses c.loop-n.table) seen mid c.loop-n.invariant.got in
    let P : Option Holding → Type 0 = λ q. LeavesNext q c.args.root.now c.loop-n.n here c.loop-n.table mid e new in
    let q = err_from_is_err_and c.from_residual-in_err-list_next.result c.from_residual-in_err-list_next.ensures.1 in
    rw (q.1, q.2)
    (leaves_listing (holding seen) c.args.root.now c.args.policy.now c.args.interface.now c.args.table.now here c.loop-n.n c.loop-n.table seen mid new
    c.loop-n.invariant.listed c.loop-n.invariant.got e (subst P same c.in_err-list_next.ensures.next))

pub loop-n-preserved : goal.loop-n-preserved
loop-n-preserved g c =
    let seen = g.F.Feeds.seen c.args.feeds.now in
    let mid = g.F.Feeds.seen c.loop-n.feeds in
    let here = c.loop-n.here.keys in
    let there = c.list_next.new.here.keys in
    let same = holding_got (addresses c.args.table.now) (addresses c.loop-n.table) seen mid c.loop-n.invariant.got in
    let P : Option Holding → Type 0 = λ q. ListsNext q c.args.root.now c.args.policy.now c.loop-n.n here there c.loop-n.table c.list_next.new.table in
    record {
      listed = listed_next (holding seen) c.args.root.now c.args.policy.now c.args.interface.now c.args.table.now here there c.loop-n.n
          c.loop-n.table c.list_next.new.table c.loop-n.invariant.listed (subst P same c.in_ok-list_next.ensures.next);
      got = gets_more (addresses c.args.table.now) (addresses c.loop-n.table) (addresses c.list_next.new.table) seen mid (g.F.Feeds.seen c.list_next.new.feeds)
          c.loop-n.invariant.got c.in_ok-list_next.ensures.asks;
    }
