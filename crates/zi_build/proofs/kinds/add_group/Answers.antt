use Rattle.std.proofs.Common.{ap, ◌∙◌, ◌++◌, map}
use Rattle.zi_choice.specs.Vars.{candidates_of, var_number}
use Rattle.zi_build.specs.Clauses.{each, one_var}
use Rattle.zi_build.specs.Writing.{plan_of}
use Rattle.zi_build.proofs.GroupLaws.{one_group}
use Rattle.zi_build.proofs.kinds.add_group.Goals as goal

pub returns : goal.returns
returns c =
    one_group c.args.plan.now.keeps (plan_of c.args.plan.now) c.args.w.now c.put.new.w c.args.i c.candidates.result.now c.as_slice.result.now c.candidates.ensures.is c.if-candidates-lt2.false
    (c.as_slice.ensures.value ∙ c.in_ok-push_numbers.ensures ∙ ap (λ l. l ++ map (var_number (plan_of c.args.plan.now)) (each 0 (one_var c.args.i) (candidates_of (plan_of c.args.plan.now) c.args.i))) c.new-variables.ensures.items) c.in_ok-put.ensures
