use Rattle.std.proofs.Common.{refl}
use Rattle.zi_conflict.proofs.PartLaws.{part_or, part_end}
use Rattle.zi_conflict.proofs.cores.without.Goals as goal

pub loop-k-preserved : goal.loop-k-preserved
loop-k-preserved c = rw c.in_ok-pick.ensures (part_or c.loop-k.others.items c.args.numbers.now c.loop-k.k _ _ c.loop-k-test.true refl c.loop-k.invariant)

pub returns : goal.returns
returns c = part_end c.loop-k.others.items c.args.numbers.now c.loop-k.k c.loop-k-test.false c.loop-k.invariant
