use Rattle.std.proofs.Common.{take}
use Rattle.zi_build.specs.Clauses.{each, group_of}
use Rattle.zi_build.specs.Writing.{plan_of, Adds}
use Rattle.zi_build.proofs.kinds.add_groups.Given as goal

abbrev pub invariant-loop-i : goal.invariant-loop-i
invariant-loop-i l = Adds l.plan.keeps (plan_of l.plan) l.initial.w (each 0 group_of (take l.i (plan_of l.plan))) l.w
