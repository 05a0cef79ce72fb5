use Rattle.std.proofs.Common.{rules, ◌<◌, ◌-◌, length, arith}
use Rattle.zi_sat.proofs.AddLaws.{has_at}
use Rattle.zi_sat.proofs.watch.find_other.Goals as goal

pub returns-then-ne-2 : goal.returns-then-ne-2
returns-then-ne-2 c =
    let low : c.loop-i.i - 1 < length c.args.lits.now = omega (arith, c.loop-i.invariant.0, c.loop-i-test.true) in
    (has_at c.args.lits.now (c.loop-i.i - 1) _ low, search rules, search rules)
