use Rattle.std.proofs.Common.{subst, length, ◌<◌}
use Rattle.zi_build.specs.Writing.{plan_of}
use Rattle.zi_build.proofs.GroupLaws.{adds_group}
use Rattle.zi_build.proofs.kinds.add_groups.Goals as goal

pub loop-i-preserved : goal.loop-i-preserved
loop-i-preserved c =
    adds_group c.args.plan.now.keeps (plan_of c.args.plan.now) c.args.w.now c.loop-i.w c.add_group.new.w c.loop-i.i (subst (λ u. c.loop-i.i < length u) c.interfaces-i-end.ensures.interfaces c.loop-i-test.true) c.loop-i.invariant c.in_ok-add_group.ensures
