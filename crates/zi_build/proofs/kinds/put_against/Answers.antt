use Rattle.std.proofs.Common.{◌∷◌, refl}
use Rattle.zi_choice.specs.Vars.{Cand}
use Rattle.zi_build.specs.Clauses.{no, having, clause}
use Rattle.zi_build.specs.Writing.{plan_of, as_var}
use Rattle.zi_build.proofs.WriteLaws.{wrote, against_is}
use Rattle.zi_build.proofs.kinds.put_against.Goals as goal

pub returns : goal.returns
returns c =
    wrote c.args.plan.now.keeps (plan_of c.args.plan.now) c.args.w.now (record { size = c.args.w.now.size; constraints = c.args.w.now.constraints; lits = c.push_having.new.lits }) c.put_clause.new.w c.push_having.new.lits.items (clause (no (as_var c.args.y) ∷ no (Cand c.args.j c.args.e) ∷ having c.args.j c.args.e c.args.place))
    refl refl
    (against_is (plan_of c.args.plan.now) (as_var c.args.y) c.args.j c.args.e c.args.place c.clear.new.self.items c.push.new.self.items c.push_other.new.lits.items c.push_having.new.lits.items c.lit.result c.clear.ensures.items c.lit.ensures c.in_ok-push.ensures.items c.in_ok-push_other.ensures c.in_ok-push_having.ensures)
    c.in_ok-put_clause.ensures
