use Rattle.std.proofs.Common.{arith}
use Rattle.zi_choice.specs.Vars.{own_commands}
use Rattle.zi_build.proofs.NumberLaws.{total_more, total_within}
use Rattle.zi_build.proofs.variables.count_with.Goals as goal

pub returns-then-more-n : goal.returns-then-more-n
returns-then-more-n c =
    let a = total_within own_commands c.args.candidates.now c.loop-k.k-index c.k-item.result c.loop-k-test.true c.k-item.is in
    let s = c.loop-k.invariant.sum in
    let len = c.len-more.ensures in
    let more = c.if-more-n.true in
    omega (arith, a, s, len, more)

pub loop-k-preserved : goal.loop-k-preserved
loop-k-preserved c =
    let a = total_more own_commands c.args.candidates.now c.loop-k.k-index c.k-item.result c.loop-k-test.true c.k-item.is in
    let s = c.loop-k.invariant.sum in
    let len = c.len-more.ensures in
    let few = c.loop-k.invariant.few in
    let more = c.if-more-n.false in
    record { sum = omega (arith, a, s, len); few = omega (arith, few, more) }
