use Rattle.zi_sels.proofs.NoteLaws.{clear_next, clear_end}
use Rattle.zi_sels.proofs.own.clear_commands.Goals as goal

pub loop-e-preserved : goal.loop-e-preserved
loop-e-preserved c = clear_next c.args.parts.now c.loop-e.e-index c.e-item.result _ _ c.loop-e-test.true c.e-item.is c.loop-e.invariant c.in_ok-take_clear.ensures

pub returns : goal.returns
returns c = clear_end c.args.parts.now c.loop-e.e-index _ c.loop-e-test.false c.loop-e.invariant
