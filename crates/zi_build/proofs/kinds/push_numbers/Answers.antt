use Rattle.zi_choice.specs.Vars.{candidates_of, var_number}
use Rattle.zi_build.specs.Clauses.{one_var}
use Rattle.zi_build.specs.Writing.{plan_of}
use Rattle.zi_build.proofs.GroupLaws.{push_each}
use Rattle.zi_build.proofs.kinds.push_numbers.Goals as goal

pub loop-c-preserved : goal.loop-c-preserved
loop-c-preserved c =
    push_each (var_number (plan_of c.args.plan.now)) (one_var c.args.i) c.args.variables.now.items c.loop-c.variables.items c.push_number.new.variables.items (candidates_of (plan_of c.args.plan.now) c.args.i) c.candidates-k-items.result.now c.loop-c.c c._k-item.result c.candidates-k-items.ensures.is c.loop-c-test.true c._k-item.is c.loop-c.invariant c.in_ok-push_number.ensures
