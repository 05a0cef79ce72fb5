use Rattle.std.proofs.Common.{true, subst, arith}
use Rattle.zi_tree.specs.Ways.{Enters}
use Rattle.zi_tree.proofs.Joins.{leads_in, stopped_last}
use Rattle.zi_tree.proofs.way.go_down.Goals as goal

pub loop-depth-preserved : goal.loop-depth-preserved
loop-depth-preserved c =
    leads_in c.args.parts.now c.args.here.now c.loop-depth.above c.loop-depth.here c.enter.new.above c.enter.new.here c.loop-depth.depth c.index-parts-depth.result c.loop-depth.invariant (omega arith) c.index-parts-depth.is
    (subst (λ n. Enters n c.loop-depth.above c.loop-depth.here true c.enter.new.above c.enter.new.here) c.as_str.ensures c.if-not-enter.ensures)

pub returns-clause-stopped : goal.returns-clause-stopped
returns-clause-stopped c = stopped_last c.args.parts.now c.loop-depth.here c.loop-depth.depth (omega arith)
