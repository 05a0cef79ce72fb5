use Rattle.zi_build.specs.Writing.{plan_of, as_var}
use Rattle.zi_build.proofs.WriteLaws.{needs_more}
use Rattle.zi_build.proofs.kinds.add_needs.Goals as goal

pub loop-dep-preserved : goal.loop-dep-preserved
loop-dep-preserved c =
    needs_more c.args.plan.now.keeps (plan_of c.args.plan.now) (as_var c.args.y) c.args.deps.now c.loop-dep.dep-index c.dep-item.result c.args.w.now c.loop-dep.w c.add_need.new.w c.loop-dep-test.true c.dep-item.is c.loop-dep.invariant c.in_ok-add_need.ensures
