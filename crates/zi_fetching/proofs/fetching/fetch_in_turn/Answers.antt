use Rattle.std.proofs.Common.{◌≤◌, length, sym, arith}
use Rattle.std.proofs.lemmas.Result.{err_from_is_err_and}
use Rattle.zi_fetching.specs.Fetching.{Lent}
use Rattle.zi_fetching.proofs.FetchLaws.{so_far_none, so_far_next, so_far_short, so_far_end, none_so_far, fetchable_now}
use Rattle.zi_fetching.proofs.fetching.fetch_in_turn.Goals as goal

pub returns-in_err-stored : goal.returns-in_err-stored
returns-in_err-stored g c =
    let q = err_from_is_err_and c.from_residual.result c.from_residual.ensures.1 in
    rw q.1 (none_so_far _ _ q.0 q.2)

pub loop-item-init : goal.loop-item-init
loop-item-init g c = so_far_none _ _ _ (rw c.as_slice.ensures at c.in_ok-stored.ensures)

pub fetch_item-requires : goal.fetch_item-requires
fetch_item-requires g c =
    let before : Lent = record { web = g.W.Web.seen c.args.web.now; shelf = g.K.Shelf.seen c.args.shelf.now } in
    let now : Lent = record { web = g.W.Web.seen c.loop-item.web; shelf = g.K.Shelf.seen c.loop-item.shelf } in
    rw (c.requires.names, c.as_slice-picks.ensures)
    (fetchable_now c.args.chosen.now c.args.chosen.now.sels.items c.as_slice-items.result.now c.loop-item.item-index c.item-item.result before now c.loop-item.stored
    c.requires.fetchable (sym c.as_slice-items.ensures) c.loop-item-test.true c.item-item.is c.loop-item.invariant)

pub loop-item-preserved : goal.loop-item-preserved
loop-item-preserved g c =
    let before : Lent = record { web = g.W.Web.seen c.args.web.now; shelf = g.K.Shelf.seen c.args.shelf.now } in
    let now : Lent = record { web = g.W.Web.seen c.loop-item.web; shelf = g.K.Shelf.seen c.loop-item.shelf } in
    let then : Lent = record { web = g.W.Web.seen c.fetch_item.new.web; shelf = g.K.Shelf.seen c.fetch_item.new.shelf } in
    so_far_next c.args.chosen.now c.as_slice-items.result.now c.loop-item.item-index c.item-item.result before now then c.loop-item.stored c.fetch_item.new.stored
    c.loop-item-test.true c.item-item.is c.loop-item.invariant (rw c.requires.names at (rw c.as_slice-picks.ensures at c.in_ok-fetch_item.ensures))

pub returns-in_err-fetch_item : goal.returns-in_err-fetch_item
returns-in_err-fetch_item g c =
    let before : Lent = record { web = g.W.Web.seen c.args.web.now; shelf = g.K.Shelf.seen c.args.shelf.now } in
    let now : Lent = record { web = g.W.Web.seen c.loop-item.web; shelf = g.K.Shelf.seen c.loop-item.shelf } in
    let then : Lent = record { web = g.W.Web.seen c.fetch_item.new.web; shelf = g.K.Shelf.seen c.fetch_item.new.shelf } in
    let q = err_from_is_err_and c.from_residual-in_err-fetch_item.result c.from_residual-in_err-fetch_item.ensures.1 in
    rw (q.1, q.2)
    (so_far_short c.args.chosen.now c.as_slice-items.result.now c.loop-item.item-index c.item-item.result before now then c.loop-item.stored c.fetch_item.new.stored c.in_err-fetch_item.field-0.0
    c.requires.installed c.as_slice-items.ensures c.loop-item-test.true c.item-item.is c.loop-item.invariant (rw c.requires.names at (rw c.as_slice-picks.ensures at c.in_err-fetch_item.ensures)))

pub returns : goal.returns
returns g c =
    so_far_end c.args.chosen.now c.as_slice-items.result.now c.loop-item.item-index _ _ c.loop-item.stored c.requires.installed c.as_slice-items.ensures
    (let le : length c.as_slice-items.result.now ≤ c.loop-item.item-index = omega arith in le) c.loop-item.invariant
