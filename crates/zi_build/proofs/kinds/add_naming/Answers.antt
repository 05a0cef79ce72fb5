use Rattle.zi_build.specs.Writing.{plan_of, as_var}
use Rattle.zi_build.proofs.WriteLaws.{naming_more}
use Rattle.zi_build.proofs.kinds.add_naming.Goals as goal

pub loop-name-preserved : goal.loop-name-preserved
loop-name-preserved c =
    naming_more c.args.plan.now.keeps (plan_of c.args.plan.now) (as_var c.args.y) c.args.dep.now c.args.j c.args.dep.now.commands c.as_slice-name-items.result.now c.loop-name.name-index c.name-item.result c.args.w.now c.loop-name.w c.add_all_named.new.w c.requires.target c.as_slice-name-items.ensures c.loop-name-test.true c.name-item.is c.loop-name.invariant c.in_ok-add_all_named.ensures
