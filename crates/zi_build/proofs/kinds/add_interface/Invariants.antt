use Rattle.std.proofs.Common.{take}
use Rattle.zi_choice.specs.Vars.{candidates_of}
use Rattle.zi_build.specs.Clauses.{each, of_candidate}
use Rattle.zi_build.specs.Writing.{plan_of, Adds}
use Rattle.zi_build.proofs.kinds.add_interface.Given as goal

abbrev pub invariant-loop-c : goal.invariant-loop-c
invariant-loop-c l = Adds l.plan.keeps (plan_of l.plan) l.initial.w (each 0 (of_candidate (plan_of l.plan) l.i) (take l.c (candidates_of (plan_of l.plan) l.i))) l.w
