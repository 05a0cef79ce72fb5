use Rattle.std.proofs.Common.{◌-◌, arith}
use Rattle.zi_showing.proofs.PieceLaws.{from_none, from_more, from_all}
use Rattle.zi_showing.proofs.left.all_left.Goals as goal

pub loop-n-init : goal.loop-n-init
loop-n-init c = from_none c.args.items.now c.new-left.result.entries c.new-left.ensures.empty

pub loop-n-preserved : goal.loop-n-preserved
loop-n-preserved c =
    from_more c.args.items.now (c.loop-n.n - 1) c.loop-n.n c.as_str.result _ c.loop-n.left.entries c.insert.new.self.entries (omega arith) (omega arith) c.index-items-n.is c.as_str.ensures
    c.in_ok-insert.ensures.updates.0 c.loop-n.invariant

pub returns : goal.returns
returns c = from_all c.args.items.now c.loop-n.n c.loop-n.left.entries (omega arith) c.loop-n.invariant
