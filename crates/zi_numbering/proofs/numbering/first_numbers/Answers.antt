use Rattle.std.proofs.Common.{ap, arith}
use Rattle.zi_choice.specs.Vars.{total, own_candidates}
use Rattle.zi_choice.proofs.SumLaws.{total_few}
use Rattle.zi_build.proofs.NumberLaws.{total_more, total_part, total_within, starts_more}
use Rattle.zi_numbering.proofs.numbering.first_numbers.Goals as goal

pub overflow_add-next : goal.overflow_add-next
overflow_add-next c =
    let a = total_within own_candidates c.interfaces-x-items.result.now c.loop-x.x-index c.x-item.result c.loop-x-test.true c.x-item.is in
    let s = c.loop-x.invariant.sum in
    let len = c.len.ensures in
    let e = ap (total own_candidates) c.interfaces-x-items.ensures.interfaces in
    let few = total_few c.args.u.now c.interfaces-x-items.ensures.whole in
    omega (arith, a, s, len, e, few)

pub loop-x-preserved : goal.loop-x-preserved
loop-x-preserved c =
    let a = total_more own_candidates c.interfaces-x-items.result.now c.loop-x.x-index c.x-item.result c.loop-x-test.true c.x-item.is in
    let s = c.loop-x.invariant.sum in
    let len = c.len.ensures in
    record {
      are = starts_more own_candidates 1 c.interfaces-x-items.result.now c.loop-x.x-index c.x-item.result c.loop-x.numbers c.push.new.self c.loop-x.next c.loop-x-test.true c.x-item.is c.loop-x.invariant.are c.loop-x.invariant.sum c.in_ok-push.ensures.ok;
      sum = omega (arith, a, s, len);
    }
