use Rattle.std.proofs.Common.{◌++◌, ap}
use Rattle.zi_session.specs.AtPlace.{calls}
use Rattle.zi_session.proofs.PlaceLemmas.{at_start}
use Rattle.zi_session.proofs.works.put_nodes.Goals as goal

pub loop-place-init : goal.loop-place-init
loop-place-init c = ap (λ l. calls c.args.works.now.items ++ l) (at_start c.args.tree.now c.deref-place-items.result.now c.in_ok-places.places.items c.deref-place-items.ensures.value c.in_ok-places.ensures)
