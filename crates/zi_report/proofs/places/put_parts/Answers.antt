use Rattle.std.proofs.Common.{refl}
use Rattle.zi_report.proofs.TextLaws.{puts_next}
use Rattle.zi_report.proofs.places.put_parts.Goals as goal

pub loop-n-preserved : goal.loop-n-preserved
loop-n-preserved c =
    puts_next c.args.of.now c.args.places.now c.args.reports.now c.args.text.now c.loop-n.n c.loop-n.left.now c.in_ok-left.left.now c.loop-n.text c.put_part.new.text _ _
    c.loop-n-test.true refl c.in_ok-left.ensures.0 c.in_ok-left.ensures.1 c.loop-n.invariant
