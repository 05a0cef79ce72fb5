use Rattle.std.proofs.lemmas.Bool.{ltb-true}
use Rattle.std.proofs.Common.{sym, ◌∙◌}
use Rattle.zi_build.specs.Clauses.{admission, need}
use Rattle.zi_build.specs.Writing.{plan_of, as_var}
use Rattle.zi_build.proofs.WriteLaws.{adds_as, need_nowhere, adds_past}
use Rattle.zi_build.proofs.kinds.add_need.Goals as goal

pub returns-in_default : goal.returns-in_default
returns-in_default c =
    adds_as c.args.plan.now.keeps (plan_of c.args.plan.now) c.args.w.now c.add_admission.new.w (admission (plan_of c.args.plan.now) (as_var c.args.y) c.args.dep.now c.args.dep.now.kind) (need (plan_of c.args.plan.now) (as_var c.args.y) c.args.dep.now)
    (need_nowhere (plan_of c.args.plan.now) (as_var c.args.y) c.args.dep.now (sym c.target-j.ensures.is ∙ c.in_default.is)) c.in_ok-add_admission.ensures

pub returns-then-is_full : goal.returns-then-is_full
returns-then-is_full c =
    adds_past c.args.plan.now.keeps (plan_of c.args.plan.now) c.args.w.now (need (plan_of c.args.plan.now) (as_var c.args.y) c.args.dep.now) (ltb-true 8000000 c.args.w.now.size (sym c.is_full.ensures ∙ c.if-is_full.true))
