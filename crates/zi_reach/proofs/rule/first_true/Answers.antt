use Rattle.zi_sat.specs.Trail.{known_from}
use Rattle.zi_reach.specs.Rule.{if_true}
use Rattle.zi_reach.proofs.RuleLaws.{first_starts, first_passed, first_found, first_ends}
use Rattle.zi_reach.proofs.rule.first_true.Goals as goal

pub loop-x-init : goal.loop-x-init
loop-x-init c = first_starts (if_true c.args.t.now.variables (known_from c.args.t.now.entries)) c.args.xs.now

pub loop-x-preserved : goal.loop-x-preserved
loop-x-preserved c =
    first_passed (if_true c.args.t.now.variables (known_from c.args.t.now.entries)) c.args.xs.now c.loop-x.x-index 0 c.loop-x.invariant c.loop-x-test.true c.in_default.ensures

pub returns-in-Some : goal.returns-in-Some
returns-in-Some c =
    first_found (if_true c.args.t.now.variables (known_from c.args.t.now.entries)) c.args.xs.now c.loop-x.x-index 0 c.in-Some.found c.loop-x.invariant c.loop-x-test.true c.in-Some.ensures

pub returns : goal.returns
returns c =
    first_ends (if_true c.args.t.now.variables (known_from c.args.t.now.entries)) c.args.xs.now c.loop-x.x-index c.loop-x.invariant c.loop-x-test.false
