use Rattle.std.proofs.Common.{◌≡◌, drop}
use Rattle.zi_sat.specs.Trail.{known_from}
use Rattle.zi_reach.specs.Rule.{first_given, of_turn}
use Rattle.zi_reach.proofs.rule.next_of.Given as goal

abbrev pub invariant-loop-turn : goal.invariant-loop-turn
invariant-loop-turn l =
    first_given (of_turn l.t.variables (known_from l.t.entries) l.faces) (drop l.turn-index l.order) ≡ first_given (of_turn l.t.variables (known_from l.t.entries) l.faces) l.order
