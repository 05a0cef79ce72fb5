use Rattle.std.proofs.Common.{arith}
use Rattle.zi_tree.proofs.Holders.{holder_last}
use Rattle.zi_tree.proofs.tree.Tree.holder.Goals as goal

pub returns : goal.returns
returns c = holder_last c.args.parts.now c.loop-depth.depth c.args.self.now c.loop-depth.here.now (omega arith) (omega arith) c.loop-depth.invariant.1
