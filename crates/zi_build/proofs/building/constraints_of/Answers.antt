use Rattle.std.proofs.Common.{◌∙◌, sym, subst, Some}
use Rattle.zi_build.specs.Writing.{plan_of}
use Rattle.zi_build.specs.Answers.{AreKept}
use Rattle.zi_build.proofs.LimitLaws.{counted, too_many, all_kept}
use Rattle.zi_build.proofs.building.constraints_of.Goals as goal

pub returns-then-is_full : goal.returns-then-is_full
returns-then-is_full c =
    too_many c.args.plan.now.keeps (plan_of c.args.plan.now) c.args.req.now c.add_rules.new.w (sym c.is_full.ensures ∙ c.if-is_full.true)
    (counted c.args.plan.now.keeps (plan_of c.args.plan.now) c.args.req.now c.no_constraints-w.result c.add_rules.new.w c.no_constraints-w.ensures.size c.no_constraints-w.ensures.constraints c.in_ok-add_rules.ensures)

pub returns : goal.returns
returns c =
    subst (λ cs. AreKept (plan_of c.args.plan.now) c.args.req.now (Some cs)) (sym c.fit.ensures)
    (all_kept c.args.plan.now.keeps (plan_of c.args.plan.now) c.args.req.now c.add_rules.new.w c.requires.keeps (sym c.is_full.ensures ∙ c.if-is_full.false)
    (counted c.args.plan.now.keeps (plan_of c.args.plan.now) c.args.req.now c.no_constraints-w.result c.add_rules.new.w c.no_constraints-w.ensures.size c.no_constraints-w.ensures.constraints c.in_ok-add_rules.ensures))
