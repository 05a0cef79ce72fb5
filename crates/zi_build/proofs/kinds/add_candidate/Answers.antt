use Rattle.std.proofs.Common.{◌∙◌, map, sym}
use Rattle.std.proofs.lemmas.Bool.{ltb-true}
use Rattle.zi_build.specs.Clauses.{constraint_of, of_candidate}
use Rattle.zi_build.specs.Writing.{plan_of}
use Rattle.zi_build.proofs.WriteLaws.{put_past}
use Rattle.zi_build.proofs.kinds.add_candidate.Goals as goal

pub returns-then-is_full : goal.returns-then-is_full
returns-then-is_full c =
    put_past c.args.plan.now.keeps c.args.w.now (map (constraint_of (plan_of c.args.plan.now)) (of_candidate (plan_of c.args.plan.now) c.args.i c.args.c c.args.k.now)) (ltb-true 8000000 c.args.w.now.size (sym c.is_full.ensures ∙ c.if-is_full.true))
