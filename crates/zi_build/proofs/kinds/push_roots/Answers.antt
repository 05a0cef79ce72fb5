use Rattle.zi_choice.specs.Vars.{candidates_of}
use Rattle.zi_build.specs.Clauses.{root_one}
use Rattle.zi_build.specs.Writing.{plan_of}
use Rattle.zi_build.proofs.WriteLaws.{push_over}
use Rattle.zi_build.proofs.kinds.push_roots.Goals as goal

pub loop-c-preserved : goal.loop-c-preserved
loop-c-preserved c =
    push_over (plan_of c.args.plan.now) root_one c.args.lits.now.items c.loop-c.lits.items c.push_root.new.lits.items (candidates_of (plan_of c.args.plan.now) 0) c.candidates-k-items.result.now c.loop-c.c c._k-item.result c.candidates-k-items.ensures.is c.loop-c-test.true c._k-item.is c.loop-c.invariant c.in_ok-push_root.ensures
