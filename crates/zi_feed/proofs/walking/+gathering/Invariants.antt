use Rattle.std.proofs.Common.{◌≡◌, ◌++◌, ◌+◌, ◌*◌, suc, map, drop}
use Rattle.std.specs.Prelude.{option_copied}
use Rattle.zi_elements.specs.Forest.{node_view, nodes_view}
use Rattle.zi_reading.specs.Ways.{ways_of}
use Rattle.zi_feed.specs.Shares.{TablesGrow, IsGathered}
use Rattle.zi_faults.specs.Carrying.{said_by, seen_view, carried_sites, AreChecked}
use Rattle.zi_feed.specs.Inward.{carried_impls, carried_natives}
use Rattle.zi_faults.proofs.SizeLaws.{size}
use Rattle.zi_feed.proofs.walking.+gathering.Given as goal

abbrev pub invariant-gather-loop-node : goal.invariant-gather-loop-node
invariant-gather-loop-node l = record {
  checked : AreChecked (ways_of l.fn.ways) l.fn.found.seen.items → AreChecked (ways_of l.fn.ways) l.found.seen.items;
  seen :
      map seen_view l.found.seen.items ++ carried_sites (ways_of l.fn.ways) (said_by l.fn.around.said) l.fn.parent.name (nodes_view (drop l.node-index l.node-items))
      ≡ map seen_view l.fn.found.seen.items ++ carried_sites (ways_of l.fn.ways) (said_by l.fn.around.said) l.fn.parent.name (nodes_view l.fn.parent.children);
  impls :
      l.found.gathered.impls
      ++ carried_impls (ways_of l.fn.ways) (option_copied l.fn.policy) (said_by l.fn.around.said, l.fn.around.added) l.fn.parent.name (nodes_view (drop l.node-index l.node-items))
      ≡ l.fn.found.gathered.impls
      ++ carried_impls (ways_of l.fn.ways) (option_copied l.fn.policy) (said_by l.fn.around.said, l.fn.around.added) l.fn.parent.name (nodes_view l.fn.parent.children);
  natives :
      l.found.gathered.natives
      ++ carried_natives (ways_of l.fn.ways) (option_copied l.fn.policy) (said_by l.fn.around.said, l.fn.around.added) l.fn.parent.name (nodes_view (drop l.node-index l.node-items))
      ≡ l.fn.found.gathered.natives
      ++ carried_natives (ways_of l.fn.ways) (option_copied l.fn.policy) (said_by l.fn.around.said, l.fn.around.added) l.fn.parent.name (nodes_view l.fn.parent.children);
  tables : TablesGrow l.fn.found.gathered.shares l.found.gathered.shares;
  right : IsGathered l.found.gathered;
}

abbrev pub decreases-gather : goal.decreases-gather
decreases-gather l = 3 * suc (size (nodes_view l.parent.now.children))

abbrev pub decreases-gather_node : goal.decreases-gather_node
decreases-gather_node l = 3 * size (node_view l.node.now) + 2

abbrev pub decreases-gather_at : goal.decreases-gather_at
decreases-gather_at l = 3 * suc (size (nodes_view l.e.now.children)) + 1
