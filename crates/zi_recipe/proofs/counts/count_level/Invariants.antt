use Rattle.std.proofs.Common.{◌≡◌, ◌≤◌, ◌+◌, take}
use Rattle.std.specs.List.{flat_map}
use Rattle.zi_tree.specs.Limits.{nodes_limit}
use Rattle.zi_recipe.specs.Levels.{trees, folders_in, entries_in}
use Rattle.zi_recipe.proofs.counts.count_level.Given as goal

abbrev pub invariant-loop-folder : goal.invariant-loop-folder
invariant-loop-folder l = record {
  inner : trees l.next.items ≡ flat_map folders_in (trees (take l.folder-index l.level));
  counted : l.nodes ≡ l.initial.nodes + entries_in (trees (take l.folder-index l.level));
  few : l.nodes ≤ nodes_limit;
}
