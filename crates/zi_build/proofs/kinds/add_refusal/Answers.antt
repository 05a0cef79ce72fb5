use Rattle.std.proofs.Common.{◌∷◌, [], not}
use Rattle.zi_choice.specs.Vars.{Cand}
use Rattle.zi_build.specs.Clauses.{no, clause, is_admitted, refused_one}
use Rattle.zi_build.specs.Writing.{plan_of, as_var}
use Rattle.zi_build.proofs.WriteLaws.{adds_as, kept, turned}
use Rattle.zi_build.proofs.kinds.add_refusal.Goals as goal

pub returns : goal.returns
returns c =
    adds_as c.args.plan.now.keeps (plan_of c.args.plan.now) c.args.w.now c.put_against.new.w (clause (no (as_var c.args.y) ∷ no (Cand c.args.j c.args.e) ∷ []) ∷ []) (refused_one (as_var c.args.y) c.args.dep.now c.args.j c.args.e c.args.k.now)
    (kept (not (is_admitted c.args.dep.now c.args.k.now)) (clause (no (as_var c.args.y) ∷ no (Cand c.args.j c.args.e) ∷ [])) (turned c.is_admitted.result (is_admitted c.args.dep.now c.args.k.now) c.is_admitted.ensures c.if-is_admitted.false))
    c.in_ok-put_against.ensures
