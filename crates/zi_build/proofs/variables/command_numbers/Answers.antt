use Rattle.std.proofs.Common.{◌∙◌, ap, arith}
use Rattle.zi_choice.specs.Vars.{total, own_commands, all_commands}
use Rattle.zi_build.specs.Writing.{starts}
use Rattle.zi_build.proofs.NumberLaws.{total_more, total_within, command_starts_more}
use Rattle.zi_build.proofs.variables.command_numbers.Goals as goal

pub numbers_from-requires : goal.numbers_from-requires
numbers_from-requires c =
    let a = total_within all_commands c.interfaces-x-items.result.now c.loop-x.x-index c.x-item.result c.loop-x-test.true c.x-item.is in
    let s = c.loop-x.invariant.sum in
    let e = ap (total own_commands) c.as_slice.ensures in
    let f = ap (total all_commands) c.interfaces-x-items.ensures.interfaces in
    let few = c.requires in
    omega (arith, a, s, e, f, few)

pub loop-x-preserved : goal.loop-x-preserved
loop-x-preserved c =
    let a = total_more all_commands c.interfaces-x-items.result.now c.loop-x.x-index c.x-item.result c.loop-x-test.true c.x-item.is in
    let s = c.loop-x.invariant.sum in
    let e = ap (total own_commands) c.as_slice.ensures in
    let n = c.in_ok-row.ensures.1 in
    record {
      are = command_starts_more c.args.first c.interfaces-x-items.result.now c.loop-x.x-index c.x-item.result c.loop-x.rows c.push.new.self c.in_ok-row.row c.loop-x.next c.loop-x-test.true c.x-item.is c.loop-x.invariant.are c.loop-x.invariant.sum
          (c.in_ok-row.ensures.0 ∙ ap (starts own_commands c.loop-x.next) c.as_slice.ensures) c.in_ok-push.ensures.ok;
      sum = omega (arith, a, s, e, n);
    }
