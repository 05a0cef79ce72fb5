use Rattle.std.proofs.Common.{◌≡◌, ◌++◌, take}
use Rattle.zi_tree.specs.Paths.{items}
use Rattle.zi_recipe.specs.Levels.{trees, folders_among}
use Rattle.zi_recipe.proofs.counts.add_folders.Given as goal

abbrev pub invariant-loop-i : goal.invariant-loop-i
invariant-loop-i l = trees l.into.items ≡ trees l.initial.into.items ++ folders_among (take l.i (items l.folder))
