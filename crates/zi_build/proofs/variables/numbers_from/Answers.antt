use Rattle.std.proofs.Common.{arith}
use Rattle.zi_choice.specs.Vars.{own_commands}
use Rattle.zi_build.proofs.NumberLaws.{total_more, total_within, starts_more}
use Rattle.zi_build.proofs.variables.numbers_from.Goals as goal

pub overflow_cast-next : goal.overflow_cast-next
overflow_cast-next c =
    let a = total_within own_commands c.args.candidates.now c.loop-k.k-index c.k-item.result c.loop-k-test.true c.k-item.is in
    let len = c.len.ensures in
    let few = c.requires in
    omega (arith, a, len, few)

pub overflow_add-next : goal.overflow_add-next
overflow_add-next c =
    let a = total_within own_commands c.args.candidates.now c.loop-k.k-index c.k-item.result c.loop-k-test.true c.k-item.is in
    let s = c.loop-k.invariant.sum in
    let len = c.len.ensures in
    let few = c.requires in
    omega (arith, a, s, len, few)

pub loop-k-preserved : goal.loop-k-preserved
loop-k-preserved c =
    let a = total_more own_commands c.args.candidates.now c.loop-k.k-index c.k-item.result c.loop-k-test.true c.k-item.is in
    let s = c.loop-k.invariant.sum in
    let len = c.len.ensures in
    record {
      are = starts_more own_commands c.args.first c.args.candidates.now c.loop-k.k-index c.k-item.result c.loop-k.numbers c.push.new.self c.loop-k.next c.loop-k-test.true c.k-item.is c.loop-k.invariant.are c.loop-k.invariant.sum c.in_ok-push.ensures.ok;
      sum = omega (arith, a, s, len);
    }
