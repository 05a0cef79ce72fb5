use Rattle.std.proofs.Common.{take}
use Rattle.zi_build.specs.Clauses.{needs}
use Rattle.zi_build.specs.Writing.{plan_of, as_var, Adds}
use Rattle.zi_build.proofs.kinds.add_needs.Given as goal

abbrev pub invariant-loop-dep : goal.invariant-loop-dep
invariant-loop-dep l = Adds l.plan.keeps (plan_of l.plan) l.initial.w (needs (plan_of l.plan) (as_var l.y) (take l.dep-index l.deps)) l.w
