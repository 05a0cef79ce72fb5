use Rattle.std.proofs.Common.{◌∷◌, map, length, refl}
use Rattle.std.proofs.lemmas.Option.{slice_get_read}
use Rattle.std.proofs.lemmas.Result.{err_from_is_err_and}
use Rattle.zi_launching.specs.Folders.{stored_at, place_in}
use Rattle.zi_launching.proofs.FolderLaws.{found_more, lacks_at}
use Rattle.zi_launching.proofs.folders.folders_of.Goals as goal

pub returns-in_err-folder : goal.returns-in_err-folder
returns-in_err-folder g c =
    let q = err_from_is_err_and c.from_residual.result c.from_residual.ensures.1 in
    rw (q.1, q.2)
    (lacks_at (stored_at (g.K.Shelf.seen c.args.shelf.now ∷ map g.R.Shelf.seen c.args.others.now) (place_in c.args.places.now.stores.entries)) c.args.stored.now c.args.items.now c.loop-item.item-index c.item-item.result c.in_err-folder.field-0.0
    (slice_get_read c.args.items.now (length c.args.items.now) c.loop-item.item-index c.item-item.result refl c.loop-item-test.true c.item-item.is) c.loop-item.invariant.none c.in_err-folder.ensures)

pub loop-item-preserved : goal.loop-item-preserved
loop-item-preserved g c =
    found_more (stored_at (g.K.Shelf.seen c.args.shelf.now ∷ map g.R.Shelf.seen c.args.others.now) (place_in c.args.places.now.stores.entries)) c.args.stored.now c.args.items.now c.loop-item.item-index c.item-item.result c.in_ok-folder.field-0 c.loop-item.folders c.push.new.self c.loop-item-test.true c.item-item.is
    c.loop-item.invariant c.in_ok-folder.ensures c.in_ok-push.ensures.ok
