use Rattle.std.proofs.Common.{◌∷◌, refl}
use Rattle.zi_choice.specs.Vars.{Cand}
use Rattle.zi_build.specs.Clauses.{no, having, clause}
use Rattle.zi_build.specs.Writing.{plan_of}
use Rattle.zi_build.proofs.WriteLaws.{wrote, wanted_is}
use Rattle.zi_build.proofs.kinds.put_wanted.Goals as goal

pub returns : goal.returns
returns c =
    wrote c.args.plan.now.keeps (plan_of c.args.plan.now) c.args.w.now (record { size = c.args.w.now.size; constraints = c.args.w.now.constraints; lits = c.push_having.new.lits }) c.put_clause.new.w c.push_having.new.lits.items (clause (no (Cand 0 c.args.c) ∷ having 0 c.args.c c.args.place))
    refl refl
    (wanted_is (plan_of c.args.plan.now) c.args.c c.args.place c.clear.new.self.items c.push.new.self.items c.push_having.new.lits.items c.lit.result c.clear.ensures.items c.lit.ensures c.in_ok-push.ensures.items c.in_ok-push_having.ensures)
    c.in_ok-put_clause.ensures
