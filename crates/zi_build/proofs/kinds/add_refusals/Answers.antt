use Rattle.zi_choice.specs.Vars.{candidates_of}
use Rattle.zi_build.specs.Clauses.{refused_one}
use Rattle.zi_build.specs.Writing.{plan_of, as_var}
use Rattle.zi_build.proofs.WriteLaws.{adds_over}
use Rattle.zi_build.proofs.kinds.add_refusals.Goals as goal

pub loop-e-preserved : goal.loop-e-preserved
loop-e-preserved c =
    adds_over c.args.plan.now.keeps (plan_of c.args.plan.now) c.args.w.now c.loop-e.w c.add_refusal.new.w (refused_one (as_var c.args.y) c.args.dep.now c.args.j) (candidates_of (plan_of c.args.plan.now) c.args.j) c.candidates-k-items.result.now c.loop-e.e c.k-item.result c.candidates-k-items.ensures.is c.loop-e-test.true c.k-item.is c.loop-e.invariant c.in_ok-add_refusal.ensures
