use Rattle.std.proofs.Common.{take}
use Rattle.zi_build.specs.Clauses.{each, of_command}
use Rattle.zi_build.specs.Writing.{plan_of, Adds}
use Rattle.zi_build.proofs.kinds.add_commands.Given as goal

abbrev pub invariant-loop-n : goal.invariant-loop-n
invariant-loop-n l = Adds l.plan.keeps (plan_of l.plan) l.initial.w (each 0 (of_command (plan_of l.plan) l.i l.c) (take l.n l.k.imp.commands)) l.w
