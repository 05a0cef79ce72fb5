use Rattle.std.proofs.Common.{◌≤◌, ◌+◌, ◌++◌, ◌∷◌, [], length, refl, arith}
use Rattle.std.proofs.lemmas.Result.{err_from_is_err_and}
use Rattle.zi_launching.proofs.AddLaws.{added_none, added_next, added_stops, added_short, added_end}
use Rattle.zi_launching.proofs.shims.add_shims.Goals as goal

pub loop-call-init : goal.loop-call-init
loop-call-init g c = added_none c.args.stored.now (g.K.Shelf.seen c.args.shelf.now) c.new-names.result c.new-names.ensures

pub loop-call-preserved : goal.loop-call-preserved
loop-call-preserved g c =
    added_next c.args.stored.now c.args.calls.now c.loop-call.call-index c.call-item.result (g.K.Shelf.seen c.args.shelf.now) (g.K.Shelf.seen c.loop-call.shelf) (g.K.Shelf.seen c.add_shim.new.shelf)
    c.loop-call.names c.push.new.self c.in_ok-add_shim.field-0 c.loop-call.stored c.add_shim.new.stored c.loop-call-test.true c.call-item.is c.loop-call.invariant c.in_ok-add_shim.ensures c.in_ok-push.ensures.ok

pub returns-in_err-add_shim : goal.returns-in_err-add_shim
returns-in_err-add_shim g c =
    let q = err_from_is_err_and c.from_residual.result c.from_residual.ensures.1 in
    rw (q.1, q.2)
    (added_stops c.args.stored.now c.args.calls.now c.loop-call.call-index c.call-item.result (g.K.Shelf.seen c.args.shelf.now) (g.K.Shelf.seen c.loop-call.shelf) (g.K.Shelf.seen c.add_shim.new.shelf)
    c.loop-call.names c.loop-call.stored c.add_shim.new.stored c.in_err-add_shim.field-0.0 c.loop-call-test.true c.call-item.is c.loop-call.invariant c.in_err-add_shim.ensures)

pub returns-in_err-push : goal.returns-in_err-push
returns-in_err-push g c =
    let i = c.loop-call.call-index in
    let b = g.K.Shelf.seen c.args.shelf.now in
    let last = g.K.Shelf.seen c.add_shim.new.shelf in
    let q = err_from_is_err_and c.from_residual-in_err-push.result c.from_residual-in_err-push.ensures.1 in
    rw q.1
    (added_short c.args.stored.now c.args.calls.now (i + 1) b last (c.loop-call.names ++ c.in_ok-add_shim.field-0 ∷ []) c.add_shim.new.stored q.0 q.2
    (added_next c.args.stored.now c.args.calls.now i c.call-item.result b (g.K.Shelf.seen c.loop-call.shelf) last c.loop-call.names (c.loop-call.names ++ c.in_ok-add_shim.field-0 ∷ []) c.in_ok-add_shim.field-0 c.loop-call.stored c.add_shim.new.stored
    c.loop-call-test.true c.call-item.is c.loop-call.invariant c.in_ok-add_shim.ensures refl))

pub returns : goal.returns
returns g c =
    let le : length c.args.calls.now ≤ c.loop-call.call-index = omega arith in
    added_end c.args.stored.now c.args.calls.now c.loop-call.call-index (g.K.Shelf.seen c.args.shelf.now) (g.K.Shelf.seen c.loop-call.shelf) c.loop-call.names c.loop-call.stored le c.loop-call.invariant
