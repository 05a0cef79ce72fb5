use Rattle.std.proofs.Common.{length, get_or, refl}
use Rattle.zi_conflict.proofs.PartLaws.{own_at}
use Rattle.zi_conflict.proofs.ConflictLaws.{at_next, at_end}
use Rattle.zi_conflict.proofs.conflicting.at_numbers.Goals as goal

pub loop-n-preserved : goal.loop-n-preserved
loop-n-preserved c =
    at_next c.args.all.now c.args.numbers.now c.loop-n.n-index (get_or c.args.numbers.now c.loop-n.n-index 0) c.index-all-n.result c.loop-n.facts c.push.new.self c.loop-n-test.true refl
    (own_at (length c.args.all.now) c.args.numbers.now c.loop-n.n-index (get_or c.args.numbers.now c.loop-n.n-index 0) c.requires c.loop-n-test.true refl) c.index-all-n.is c.loop-n.invariant c.in_ok-push.ensures.ok

pub returns : goal.returns
returns c = at_end c.args.all.now c.args.numbers.now c.loop-n.n-index c.loop-n.facts c.loop-n-test.false c.loop-n.invariant
