use Rattle.std.proofs.Common.{map}
use Rattle.zi_digest.specs.Name.{spelling}
use Rattle.zi_purging.proofs.PurgedLemmas.{purges_store, names_failed, names_short, failed, not_failed, answered}
use Rattle.zi_purging.proofs.purging.purge_store.Goals as goal

pub returns-in-Ok : goal.returns-in-Ok
returns-in-Ok g c =
    let e = c.in-Ok.ensures in
    purges_store (map spelling c.args.kept) c.in-Ok.there (g.K.Shelf.seen c.args.shelf.now) (g.K.Shelf.seen c.stored_names.new.k) (g.K.Shelf.seen c.take_away.new.shelf) c.take_away.result
    e.keeps (e.count (answered c.in-Ok.there)) e.names (g.met.K.Shelf.sure_is c.args.shelf.now) c.take_away.ensures

pub returns-in-Err-Failed : goal.returns-in-Err-Failed
returns-in-Err-Failed g c =
    let e = c.in-Err-Failed.ensures in
    let is = failed c.in-Err-Failed.field-0 c.in-Err-Failed.field-0-is in
    names_failed (map spelling c.args.kept) (g.K.Shelf.seen c.args.shelf.now) (g.K.Shelf.seen c.stored_names.new.k) c.new.result c.new.ensures (e.cause is, λ s. e.sure s is) e.keeps

pub returns : goal.returns
returns g c =
    let e = c.in-Err-Memory.ensures in
    names_short (map spelling c.args.kept) (g.K.Shelf.seen c.args.shelf.now) (g.K.Shelf.seen c.stored_names.new.k) (e.count (not_failed c.in-Err-Memory.field-0 c.in-Err-Memory.field-0-is)) e.keeps
