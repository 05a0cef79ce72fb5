use Rattle.std.proofs.Common.{◌≡◌, ◌++◌, drop}
use Rattle.std.specs.List.{flat_map}
use Rattle.zi_tree.specs.Walk.{spots}
use Rattle.zi_session.specs.Works.{node_works}
use Rattle.zi_session.specs.AtPlace.{calls, calls_at}
use Rattle.zi_session.proofs.works.put_nodes.Given as goal

abbrev pub invariant-loop-place : goal.invariant-loop-place
invariant-loop-place l = calls l.works.items ++ flat_map calls_at (spots (drop l.place-index l.place-items)) ≡ calls l.fn.works.items ++ node_works l.tree
