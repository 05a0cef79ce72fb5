use Rattle.std.proofs.Common.{ap, ◌∷◌, []}
use Rattle.zi_choice.specs.Vars.{Cand, candidates_of}
use Rattle.zi_build.specs.Clauses.{no, having, clause, wanted_one}
use Rattle.zi_build.specs.Writing.{plan_of}
use Rattle.zi_build.proofs.WriteLaws.{adds_over, adds_as}
use Rattle.zi_build.proofs.kinds.add_wanted.Goals as goal

pub loop-c-preserved : goal.loop-c-preserved
loop-c-preserved c =
    adds_over c.args.plan.now.keeps (plan_of c.args.plan.now) c.args.w.now c.loop-c.w c.put_wanted.new.w (wanted_one c.args.name.now) (candidates_of (plan_of c.args.plan.now) 0) c.candidates-k-items.result.now c.loop-c.c c.k-item.result c.candidates-k-items.ensures.is c.loop-c-test.true c.k-item.is c.loop-c.invariant
    (adds_as c.args.plan.now.keeps (plan_of c.args.plan.now) c.loop-c.w c.put_wanted.new.w (clause (no (Cand 0 c.loop-c.c) ∷ having 0 c.loop-c.c c.place_in-place.result) ∷ []) (wanted_one c.args.name.now c.loop-c.c c.k-item.result) (ap (λ o. clause (no (Cand 0 c.loop-c.c) ∷ having 0 c.loop-c.c o) ∷ []) c.place_in-place.ensures.is) c.in_ok-put_wanted.ensures)
