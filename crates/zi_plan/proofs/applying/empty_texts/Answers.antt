use Rattle.zi_plan.proofs.NextLaws.{empty_more, empty_all}
use Rattle.zi_plan.proofs.applying.empty_texts.Goals as goal

pub loop-bound-preserved : goal.loop-bound-preserved
loop-bound-preserved c = empty_more c.args.bounds.now c.loop-bound.bound-index c.bound-item.result c.loop-bound.texts c.put_empty.new.texts c.loop-bound-test.true c.bound-item.is c.loop-bound.invariant c.in_ok-put_empty.ensures

pub returns : goal.returns
returns c = empty_all c.args.bounds.now c.loop-bound.bound-index c.loop-bound.texts c.loop-bound-test.false c.loop-bound.invariant
