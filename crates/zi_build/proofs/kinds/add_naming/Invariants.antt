use Rattle.std.proofs.Common.{take}
use Rattle.zi_build.specs.Clauses.{naming}
use Rattle.zi_build.specs.Writing.{plan_of, as_var, Adds}
use Rattle.zi_build.proofs.kinds.add_naming.Given as goal

abbrev pub invariant-loop-name : goal.invariant-loop-name
invariant-loop-name l = Adds l.plan.keeps (plan_of l.plan) l.initial.w (naming (plan_of l.plan) (as_var l.y) l.dep (take l.name-index l.dep.commands)) l.w
