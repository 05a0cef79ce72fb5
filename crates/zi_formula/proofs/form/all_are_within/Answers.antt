use Rattle.std.proofs.Common.{◌≤◌, length, arith, refl}
use Rattle.zi_formula.specs.Lent.{shows}
use Rattle.zi_formula.proofs.Walks.{within_more, within_whole}
use Rattle.zi_formula.proofs.form.all_are_within.Goals as goal

pub loop-i-preserved : goal.loop-i-preserved
loop-i-preserved c =
    within_more c.args.variables c.args.constraints.now c.loop-i.i (shows c.at.result) c.at.ensures (c.is_within.ensures.0 c.if-not-is_within.false) c.loop-i.invariant

pub returns : goal.returns
returns c =
    let len = c.len-i-end.ensures in
    let past : length c.args.constraints.now ≤ c.loop-i.i = omega (arith, len, c.loop-i-test.false) in
    (λ t. within_whole c.args.variables c.args.constraints.now c.loop-i.i past c.loop-i.invariant, λ a. refl)
