use Rattle.std.proofs.Common.{take}
use Rattle.zi_choice.specs.Vars.{candidates_of}
use Rattle.zi_build.specs.Clauses.{each, named_one}
use Rattle.zi_build.specs.Writing.{plan_of, as_var, Adds}
use Rattle.zi_build.proofs.kinds.add_all_named.Given as goal

abbrev pub invariant-loop-e : goal.invariant-loop-e
invariant-loop-e l = Adds l.plan.keeps (plan_of l.plan) l.initial.w (each 0 (named_one (as_var l.y) l.dep l.name l.j) (take l.e (candidates_of (plan_of l.plan) l.j))) l.w
