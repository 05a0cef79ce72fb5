use Rattle.std.proofs.Common.{take}
use Rattle.zi_launching.specs.Placing.{IsPlaced}
use Rattle.zi_launching.proofs.places.place_store.Given as goal

abbrev pub invariant-loop-digest : goal.invariant-loop-digest
invariant-loop-digest l = IsPlaced (take l.digest-index l.digests) l.store l.fn.stores.entries l.stores.entries
