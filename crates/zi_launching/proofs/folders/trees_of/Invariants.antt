use Rattle.std.proofs.Common.{◌≡◌, ◌++◌, drop}
use Rattle.zi_launching.specs.Folders.{trees_of}
use Rattle.zi_launching.proofs.folders.trees_of.Given as goal

abbrev pub invariant-loop-item : goal.invariant-loop-item
invariant-loop-item l = l.names ++ trees_of l.stored (drop l.item-index l.items) ≡ trees_of l.stored l.items
