use Rattle.zi_plan.proofs.PlacedLaws.{exposed_more, exposed_all}
use Rattle.zi_plan.proofs.placing.exposed.Goals as goal

pub loop-x-preserved : goal.loop-x-preserved
loop-x-preserved c = exposed_more c.args.placed.now c.loop-x.x-index c.x-item.result c.loop-x.dirs c.expose.new.dirs c.loop-x-test.true c.x-item.is c.loop-x.invariant c.in_ok-expose.ensures

pub returns : goal.returns
returns c = exposed_all c.args.placed.now c.loop-x.x-index c.loop-x.dirs c.loop-x-test.false c.loop-x.invariant
