use Rattle.std.proofs.Common.{refl, ap, ◌∙◌, ◌++◌, map}
use Rattle.zi_choice.specs.Vars.{candidates_of}
use Rattle.zi_build.specs.Clauses.{clause, each, root_one, lit_of}
use Rattle.zi_build.specs.Writing.{plan_of}
use Rattle.zi_build.proofs.WriteLaws.{wrote}
use Rattle.zi_build.proofs.MoreLaws.{root_is}
use Rattle.zi_build.proofs.kinds.put_root.Goals as goal

pub returns : goal.returns
returns c =
    wrote c.args.plan.now.keeps (plan_of c.args.plan.now) c.args.w.now (record { size = c.args.w.now.size; constraints = c.args.w.now.constraints; lits = c.push_roots.new.lits }) c.put_clause.new.w c.push_roots.new.lits.items (clause (each 0 root_one (candidates_of (plan_of c.args.plan.now) 0)))
    refl refl
    (root_is (plan_of c.args.plan.now) (candidates_of (plan_of c.args.plan.now) 0) (candidates_of (plan_of c.args.plan.now) 0) c.push_roots.new.lits.items refl (c.in_ok-push_roots.ensures ∙ ap (λ l. l ++ map (lit_of (plan_of c.args.plan.now)) (each 0 root_one (candidates_of (plan_of c.args.plan.now) 0))) c.clear.ensures.items))
    c.in_ok-put_clause.ensures
