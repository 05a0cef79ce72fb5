use Rattle.std.proofs.Common.{◌∷◌, map, take}
use Rattle.zi_launching.specs.Folders.{stored_at, place_in}
use Rattle.zi_launching.proofs.FolderLaws.{AreFound}
use Rattle.zi_launching.proofs.folders.folders_of.Given as goal

abbrev pub invariant-loop-item : goal.invariant-loop-item
invariant-loop-item g l = AreFound (stored_at (g.K.Shelf.seen l.shelf ∷ map g.R.Shelf.seen l.others) (place_in l.places.stores.entries)) l.stored (take l.item-index l.items) l.folders
