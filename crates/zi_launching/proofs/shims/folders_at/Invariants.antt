use Rattle.std.proofs.Common.{◌≡◌, ◌∷◌, map, take}
use Rattle.zi_launching.specs.Folders.{stored_at, place_in}
use Rattle.zi_launching.proofs.shims.folders_at.Given as goal

abbrev pub invariant-loop-name : goal.invariant-loop-name
invariant-loop-name g l = l.folders ≡ map (stored_at (g.K.Shelf.seen l.shelf ∷ map g.R.Shelf.seen l.others) (place_in l.places.stores.entries)) (take l.name-index l.names)
