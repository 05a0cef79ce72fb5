use Rattle.std.proofs.Common.{take, map, ◌≡◌, ◌++◌}
use Rattle.zi_choice.specs.Vars.{candidates_of}
use Rattle.zi_build.specs.Clauses.{each, admitted_one, lit_of}
use Rattle.zi_build.specs.Writing.{plan_of}
use Rattle.zi_build.proofs.kinds.push_admitted.Given as goal

abbrev pub invariant-loop-e : goal.invariant-loop-e
invariant-loop-e l = l.lits.items ≡ l.initial.lits.items ++ map (lit_of (plan_of l.plan)) (each 0 (admitted_one l.dep l.j) (take l.e (candidates_of (plan_of l.plan) l.j)))
