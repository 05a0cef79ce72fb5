use Rattle.std.proofs.Common.{map}
use Rattle.zi_plan.specs.Steps.{placed_seen, bound_seen}
use Rattle.zi_plan.proofs.BindingLaws.{put_next, put_last}
use Rattle.zi_plan.proofs.binding.put_all.Goals as goal

pub loop-binding-preserved : goal.loop-binding-preserved
loop-binding-preserved c =
    put_next (placed_seen c.args.x) c.args.bindings.now c.loop-binding.binding-index c.binding-item.result (map bound_seen c.args.out.now.items) (map bound_seen c.loop-binding.out.items) (map bound_seen c.put_one.new.out.items)
    c.loop-binding-test.true c.binding-item.is c.loop-binding.invariant c.in_ok-put_one.ensures

pub returns : goal.returns
returns c =
    put_last (placed_seen c.args.x) c.args.bindings.now c.loop-binding.binding-index (map bound_seen c.args.out.now.items) (map bound_seen c.loop-binding.out.items) c.loop-binding-test.false c.loop-binding.invariant
