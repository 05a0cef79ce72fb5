use Rattle.std.proofs.Common.{subst, rules}
use Rattle.std.proofs.lemmas.List.{take_all}
use Rattle.zi_launching.specs.Placing.{IsPlaced}
use Rattle.zi_launching.proofs.PlacesLaws.{placed_none, placed_more}
use Rattle.zi_launching.proofs.places.place_store.Goals as goal

pub loop-digest-init : goal.loop-digest-init
loop-digest-init c = placed_none c.args.store c.args.stores.now.entries

pub loop-digest-preserved : goal.loop-digest-preserved
loop-digest-preserved c =
    placed_more c.args.digests.now c.loop-digest.digest-index _ c.args.store c.args.stores.now.entries c.loop-digest.stores.entries c.add.new.stores.entries
    c.loop-digest-test.true c.loop-digest.invariant c.in_ok-add.ensures

pub returns : goal.returns
returns c = subst (λ ds. IsPlaced ds c.args.store c.args.stores.now.entries c.loop-digest.stores.entries) (take_all c.loop-digest.digest-index c.args.digests.now (search rules)) c.loop-digest.invariant
