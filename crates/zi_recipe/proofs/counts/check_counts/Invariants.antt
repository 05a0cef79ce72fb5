use Rattle.std.proofs.Common.{◌≡◌, ◌≤◌, ◌+◌, length}
use Rattle.zi_tree.specs.Limits.{nodes_limit}
use Rattle.zi_recipe.specs.Limits.{nodes_in, depth_of}
use Rattle.zi_recipe.specs.Levels.{trees, all_nodes_in, levels}
use Rattle.zi_recipe.proofs.counts.check_counts.Given as goal

abbrev pub invariant-loop-alloc : goal.invariant-loop-alloc
invariant-loop-alloc l = record {
  counted : l.nodes + all_nodes_in (trees l.level.items) ≡ nodes_in l.tree;
  deep : l.levels + levels (trees l.level.items) ≡ depth_of l.tree + 1;
  few : l.nodes ≤ nodes_limit;
  bounded : l.levels + length (trees l.level.items) ≤ l.nodes + 1;
}

abbrev pub decreases-loop-alloc : goal.decreases-loop-alloc
decreases-loop-alloc l = all_nodes_in (trees l.level.items) + length (trees l.level.items)
