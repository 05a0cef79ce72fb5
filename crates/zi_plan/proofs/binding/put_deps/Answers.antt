use Rattle.std.proofs.Common.{map}
use Rattle.zi_plan.specs.Launches.{of_dep}
use Rattle.zi_plan.specs.Steps.{bound_seen}
use Rattle.zi_plan.proofs.BindingLaws.{put_more, put_end}
use Rattle.zi_plan.proofs.binding.put_deps.Goals as goal

pub loop-dep-preserved : goal.loop-dep-preserved
loop-dep-preserved c =
    put_more (of_dep c.args.table.now) c.args.deps.now c.loop-dep.dep-index c.dep-item.result (map bound_seen c.args.out.now.items) (map bound_seen c.loop-dep.out.items) (map bound_seen c.put_dep.new.out.items)
    c.loop-dep-test.true c.dep-item.is c.loop-dep.invariant c.in_ok-put_dep.ensures

pub returns : goal.returns
returns c =
    put_end (of_dep c.args.table.now) c.args.deps.now c.loop-dep.dep-index (map bound_seen c.args.out.now.items) (map bound_seen c.loop-dep.out.items) c.loop-dep-test.false c.loop-dep.invariant
