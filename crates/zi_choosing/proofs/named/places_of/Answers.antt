use Rattle.zi_choosing.proofs.NamedLemmas.{places_more}
use Rattle.zi_choosing.proofs.named.places_of.Goals as goal

pub loop-place-preserved : goal.loop-place-preserved
loop-place-preserved c =
    places_more c.args.items.now c.loop-place.place c.index-items-place.result c.loop-place.by_interface.entries c.add.new.places.entries c.loop-place-test.true c.index-items-place.is c.loop-place.invariant c.in_ok-add.ensures
