use Rattle.zi_launching.proofs.PlacesLaws.{placed_next}
use Rattle.zi_launching.proofs.places.place_all.Goals as goal

pub loop-store-preserved : goal.loop-store-preserved
loop-store-preserved c =
    placed_next c.args.each.now c.loop-store.store c.index-each-store.result c.loop-store.stores.entries c.place_store.new.stores.entries c.loop-store-test.true c.index-each-store.is c.loop-store.invariant
    (rw c.as_slice.ensures at c.in_ok-place_store.ensures)
