use Rattle.std.proofs.Common.{arith}
use Rattle.std.proofs.lemmas.List.{take_all}
use Rattle.zi_packages.proofs.PickLaws.{named_none, named_all}
use Rattle.zi_packages.proofs.picking.first_named.Goals as goal

pub loop-at-init : goal.loop-at-init
loop-at-init c = named_none c.args.rows.now c.args.natives.now c.new-seen.result.keys c.new-named.result.items c.new-seen.ensures.empty c.new-named.ensures.items

pub loop-at-preserved : goal.loop-at-preserved
loop-at-preserved c = c.in_ok-name_at.ensures c.loop-at.invariant

pub returns-clause-same : goal.returns-clause-same
returns-clause-same c =
    named_all c.args.rows.now c.args.natives.now c.loop-at.at c.loop-at.seen.keys c.loop-at.named.items (take_all c.loop-at.at c.args.natives.now (let f = c.loop-at-test.false in omega (arith, f))) c.loop-at.invariant

pub returns-clause-at : goal.returns-clause-at
returns-clause-at c = c.loop-at.invariant.at
