use Rattle.std.proofs.Common.{take}
use Rattle.std.specs.List.{flat_map}
use Rattle.zi_build.specs.Clauses.{needs}
use Rattle.zi_build.specs.Writing.{plan_of, as_var, Adds}
use Rattle.zi_build.proofs.kinds.add_inherited.Given as goal

abbrev pub invariant-loop-piece : goal.invariant-loop-piece
invariant-loop-piece l = Adds l.plan.keeps (plan_of l.plan) l.initial.w (needs (plan_of l.plan) (as_var l.y) (flat_map (λ q. q.now) (take l.piece-index l.piece-items))) l.w
