use Rattle.zi_choice.specs.Vars.{candidates_of}
use Rattle.zi_build.specs.Clauses.{of_candidate}
use Rattle.zi_build.specs.Writing.{plan_of}
use Rattle.zi_build.proofs.WriteLaws.{adds_over}
use Rattle.zi_build.proofs.kinds.add_interface.Goals as goal

pub loop-c-preserved : goal.loop-c-preserved
loop-c-preserved c =
    adds_over c.args.plan.now.keeps (plan_of c.args.plan.now) c.args.w.now c.loop-c.w c.add_candidate.new.w (of_candidate (plan_of c.args.plan.now) c.args.i) (candidates_of (plan_of c.args.plan.now) c.args.i) c.candidates-k-items.result.now c.loop-c.c c.k-item.result c.candidates-k-items.ensures.is c.loop-c-test.true c.k-item.is c.loop-c.invariant c.in_ok-add_candidate.ensures
