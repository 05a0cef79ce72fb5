use Rattle.zi_sat.specs.Trail.{known_from}
use Rattle.zi_reach.specs.Rule.{of_turn}
use Rattle.zi_reach.proofs.RuleLaws.{first_starts, first_ends}
use Rattle.zi_reach.proofs.rule.next_of.Goals as goal

pub loop-turn-init : goal.loop-turn-init
loop-turn-init c = first_starts (of_turn c.args.t.now.variables (known_from c.args.t.now.entries) c.args.faces.now) c.args.order.now

pub returns-clause-is : goal.returns-clause-is
returns-clause-is c =
    first_ends (of_turn c.args.t.now.variables (known_from c.args.t.now.entries) c.args.faces.now) c.args.order.now c.loop-turn.turn-index c.loop-turn.invariant c.loop-turn-test.false
