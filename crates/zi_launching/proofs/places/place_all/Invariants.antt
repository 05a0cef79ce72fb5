use Rattle.std.proofs.Common.{take}
use Rattle.zi_launching.specs.Placing.{ArePlaced}
use Rattle.zi_launching.proofs.places.place_all.Given as goal

abbrev pub invariant-loop-store : goal.invariant-loop-store
invariant-loop-store l = ArePlaced (take l.store l.each) l.stores.entries
