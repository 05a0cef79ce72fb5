use Rattle.std.proofs.Common.{◌∷◌, refl}
use Rattle.zi_build.specs.Clauses.{no, clause, at_target, admitted_one}
use Rattle.zi_build.specs.Writing.{plan_of, as_var}
use Rattle.zi_build.proofs.WriteLaws.{wrote}
use Rattle.zi_build.proofs.MoreLaws.{target_is}
use Rattle.zi_build.proofs.kinds.put_admitted.Goals as goal

pub returns : goal.returns
returns c =
    wrote c.args.plan.now.keeps (plan_of c.args.plan.now) c.args.w.now (record { size = c.args.w.now.size; constraints = c.args.w.now.constraints; lits = c.push_target.new.lits }) c.put_clause.new.w c.push_target.new.lits.items (clause (no (as_var c.args.y) ∷ at_target (plan_of c.args.plan.now) (admitted_one c.args.dep.now) c.args.j))
    refl refl
    (target_is (plan_of c.args.plan.now) (as_var c.args.y) c.args.dep.now c.args.j c.clear.new.self.items c.push.new.self.items c.push_target.new.lits.items c.lit.result c.clear.ensures.items c.lit.ensures c.in_ok-push.ensures.items c.in_ok-push_target.ensures)
    c.in_ok-put_clause.ensures
