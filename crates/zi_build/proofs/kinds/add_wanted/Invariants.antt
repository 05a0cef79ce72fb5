use Rattle.std.proofs.Common.{take}
use Rattle.zi_choice.specs.Vars.{candidates_of}
use Rattle.zi_build.specs.Clauses.{each, wanted_one}
use Rattle.zi_build.specs.Writing.{plan_of, Adds}
use Rattle.zi_build.proofs.kinds.add_wanted.Given as goal

abbrev pub invariant-loop-c : goal.invariant-loop-c
invariant-loop-c l = Adds l.plan.keeps (plan_of l.plan) l.initial.w (each 0 (wanted_one l.name) (take l.c (candidates_of (plan_of l.plan) 0))) l.w
