use Rattle.std.proofs.Common.{take, map, ◌≡◌, ◌++◌}
use Rattle.zi_choice.specs.Vars.{candidates_of, var_number}
use Rattle.zi_build.specs.Clauses.{each, one_var}
use Rattle.zi_build.specs.Writing.{plan_of}
use Rattle.zi_build.proofs.kinds.push_numbers.Given as goal

abbrev pub invariant-loop-c : goal.invariant-loop-c
invariant-loop-c l = l.variables.items ≡ l.initial.variables.items ++ map (var_number (plan_of l.plan)) (each 0 (one_var l.i) (take l.c (candidates_of (plan_of l.plan) l.i)))
