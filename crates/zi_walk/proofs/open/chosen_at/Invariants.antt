use Rattle.std.proofs.Common.{◌≡◌, drop}
use Rattle.zi_sat.specs.Trail.{known_from}
use Rattle.zi_choice.specs.Vars.{candidates_of}
use Rattle.zi_walk.specs.Rule.{first_where, is_chosen}
use Rattle.zi_walk.proofs.open.chosen_at.Given as goal

abbrev pub invariant-loop-c : goal.invariant-loop-c
invariant-loop-c l =
    first_where (is_chosen l.n (known_from l.t.entries) l.i) l.c (drop l.c (candidates_of l.n l.i)) ≡ first_where (is_chosen l.n (known_from l.t.entries) l.i) 0 (candidates_of l.n l.i)
