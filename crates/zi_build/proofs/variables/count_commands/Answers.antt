use Rattle.std.proofs.Common.{◌≡◌, ◌≤◌, ◌<◌, ap, arith, subst, sym}
use Rattle.std.specs.Prelude.{MatchOption}
use Rattle.zi_choice.specs.Vars.{total, own_commands, all_commands}
use Rattle.zi_build.proofs.NumberLaws.{total_more, total_within}
use Rattle.zi_build.proofs.variables.count_commands.Goals as goal

pub loop-x-preserved : goal.loop-x-preserved
loop-x-preserved c =
    let a = total_more all_commands c.interfaces-x-items.result.now c.loop-x.x-index c.x-item.result c.loop-x-test.true c.x-item.is in
    let s = c.loop-x.invariant.sum in
    let e = ap (total own_commands) c.as_slice.ensures in
    let n = c.in_ok-n.ensures.0 in
    record { sum = omega (arith, a, s, e, n); few = c.in_ok-n.ensures.1 }

pub returns-in_err-n : goal.returns-in_err-n
returns-in_err-n c =
    let a = total_within all_commands c.interfaces-x-items.result.now c.loop-x.x-index c.x-item.result c.loop-x-test.true c.x-item.is in
    let s = c.loop-x.invariant.sum in
    let e = ap (total own_commands) c.as_slice.ensures in
    let f = ap (total all_commands) c.interfaces-x-items.ensures.interfaces in
    let over = c.in_err-n.ensures in
    let far : 4000000 < total all_commands c.args.u.now = omega (arith, a, s, e, f, over) in
    subst (λ o. MatchOption o (4000000 < total all_commands c.args.u.now) (λ n. (n ≡ total all_commands c.args.u.now) × (n ≤ 4000000))) (sym c.from_residual.ensures) far
