use Rattle.std.proofs.Common.{take, map, ◌≡◌, ◌++◌}
use Rattle.zi_choice.specs.Vars.{candidates_of}
use Rattle.zi_build.specs.Clauses.{each, root_one, lit_of}
use Rattle.zi_build.specs.Writing.{plan_of}
use Rattle.zi_build.proofs.kinds.push_roots.Given as goal

abbrev pub invariant-loop-c : goal.invariant-loop-c
invariant-loop-c l = l.lits.items ≡ l.initial.lits.items ++ map (lit_of (plan_of l.plan)) (each 0 root_one (take l.c (candidates_of (plan_of l.plan) 0)))
