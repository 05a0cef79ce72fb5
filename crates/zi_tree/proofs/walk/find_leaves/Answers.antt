use Rattle.std.proofs.Common.{◌++◌, ap}
use Rattle.zi_tree.specs.Walk.{spots, leaf_places}
use Rattle.zi_tree.proofs.After.{after_none}
use Rattle.zi_tree.proofs.walk.find_leaves.Goals as goal

pub loop-i-init : goal.loop-i-init
loop-i-init c = ap (λ d. spots c.args.found.now.items ++ leaf_places c.args.path.now d) (after_none c.args.tree.now)
