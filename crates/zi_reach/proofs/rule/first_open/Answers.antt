use Rattle.zi_sat.specs.Trail.{known_from}
use Rattle.zi_reach.specs.Rule.{if_open}
use Rattle.zi_reach.proofs.RuleLaws.{first_starts, first_passed, first_found, first_ends}
use Rattle.zi_reach.proofs.rule.first_open.Goals as goal

pub loop-x-init : goal.loop-x-init
loop-x-init c = first_starts (if_open c.args.t.now.variables (known_from c.args.t.now.entries)) c.args.xs.now

pub loop-x-preserved : goal.loop-x-preserved
loop-x-preserved c =
    first_passed (if_open c.args.t.now.variables (known_from c.args.t.now.entries)) c.args.xs.now c.loop-x.x-index 0 c.loop-x.invariant c.loop-x-test.true c.in_default.ensures.is

pub returns-in-Some-clause-is : goal.returns-in-Some-clause-is
returns-in-Some-clause-is c =
    first_found (if_open c.args.t.now.variables (known_from c.args.t.now.entries)) c.args.xs.now c.loop-x.x-index 0 c.in-Some.found c.loop-x.invariant c.loop-x-test.true c.in-Some.ensures.is

pub returns-clause-is : goal.returns-clause-is
returns-clause-is c =
    first_ends (if_open c.args.t.now.variables (known_from c.args.t.now.entries)) c.args.xs.now c.loop-x.x-index c.loop-x.invariant c.loop-x-test.false
