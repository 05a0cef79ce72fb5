use Rattle.std.proofs.Common.{get_or, refl}
use Rattle.zi_conflict.proofs.MarkLaws.{marks_more}
use Rattle.zi_conflict.proofs.resting.mark_hints.Goals as goal

pub loop-hint-preserved : goal.loop-hint-preserved
loop-hint-preserved c =
    marks_more c.args.limit c.args.hints.now c.loop-hint.hint-index (get_or c.args.hints.now c.loop-hint.hint-index 0) c.args.marks.now.items c.loop-hint.marks.items c.mark_hint.new.marks.items c.loop-hint-test.true refl c.loop-hint.invariant c.mark_hint.ensures
