use Rattle.std.proofs.Common.{◌∷◌, map, take}
use Rattle.zi_launching.specs.Folders.{place_in}
use Rattle.zi_launching.proofs.LaunchLaws.{AreSoFar}
use Rattle.zi_launching.proofs.verifying.verify_all.Given as goal

abbrev pub invariant-loop-name : goal.invariant-loop-name
invariant-loop-name g l =
    AreSoFar (place_in l.places.stores.entries) (take l.name-index l.names) l.checked (g.K.Shelf.seen l.fn.shelf ∷ map g.R.Shelf.seen l.fn.others) (g.K.Shelf.seen l.shelf ∷ map g.R.Shelf.seen l.others)
