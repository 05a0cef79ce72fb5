use Rattle.zi_tree.proofs.After.{after_next, named_at}
use Rattle.zi_tree.proofs.walk.place_at.Goals as goal

pub invariant_of-result : goal.invariant_of-result
invariant_of-result c = record { named = named_at c.args.tree.now c.args.i c.name_at-name.result.now c.is_whole.ensures c.name_at-name.ensures }

pub returns-clause-entry : goal.returns-clause-entry
returns-clause-entry c = after_next c.args.tree.now c.args.i c.name_at-name.result.now c.node_at-node.result.now c.name_at-name.ensures c.node_at-node.ensures
