use Rattle.zi_build.specs.Writing.{plan_of, Adds}
use Rattle.zi_build.proofs.MoreLaws.{command_adds}
use Rattle.std.proofs.Common.{subst}
use Rattle.zi_choice.specs.Vars.{Cmd}
use Rattle.zi_build.specs.Clauses.{needs}
use Rattle.zi_build.proofs.kinds.add_command.Goals as goal

pub returns : goal.returns
returns c =
    command_adds c.args.plan.now.keeps (plan_of c.args.plan.now) c.args.i c.args.c c.args.n c.args.m.now c.in-Some.runner c.args.w.now c.put_two.new.w c.add_needs.new.w c.add_need.new.w c.lit-a.result c.lit-b.result c.lit-a.ensures c.lit-b.ensures c.in-Some.is c.in_ok-put_two.ensures
    (subst (λ ds. Adds c.args.plan.now.keeps (plan_of c.args.plan.now) c.put_two.new.w (needs (plan_of c.args.plan.now) (Cmd c.args.i c.args.c c.args.n) ds) c.add_needs.new.w) c.as_slice.ensures c.in_ok-add_needs.ensures)
    c.in_ok-add_need.ensures
