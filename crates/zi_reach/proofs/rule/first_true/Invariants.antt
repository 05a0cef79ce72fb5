use Rattle.std.proofs.Common.{◌≡◌, drop}
use Rattle.zi_sat.specs.Trail.{known_from}
use Rattle.zi_reach.specs.Rule.{first_given, if_true}
use Rattle.zi_reach.proofs.rule.first_true.Given as goal

abbrev pub invariant-loop-x : goal.invariant-loop-x
invariant-loop-x l =
    first_given (if_true l.t.variables (known_from l.t.entries)) (drop l.x-index l.xs) ≡ first_given (if_true l.t.variables (known_from l.t.entries)) l.xs
