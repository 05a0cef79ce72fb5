use Rattle.zi_choice.specs.Vars.{candidates_of}
use Rattle.zi_build.specs.Clauses.{admitted_one}
use Rattle.zi_build.specs.Writing.{plan_of}
use Rattle.zi_build.proofs.WriteLaws.{push_over}
use Rattle.zi_build.proofs.kinds.push_admitted.Goals as goal

pub loop-e-preserved : goal.loop-e-preserved
loop-e-preserved c =
    push_over (plan_of c.args.plan.now) (admitted_one c.args.dep.now c.args.j) c.args.lits.now.items c.loop-e.lits.items c.push_if_admitted.new.lits.items (candidates_of (plan_of c.args.plan.now) c.args.j) c.candidates-k-items.result.now c.loop-e.e c.k-item.result c.candidates-k-items.ensures.is c.loop-e-test.true c.k-item.is c.loop-e.invariant c.in_ok-push_if_admitted.ensures
