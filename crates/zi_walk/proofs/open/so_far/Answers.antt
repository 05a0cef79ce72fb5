use Rattle.std.proofs.Common.{◌≡◌, length, ap, ◌∙◌, arith}
use Rattle.zi_sat.specs.Trail.{known_from}
use Rattle.zi_walk.proofs.OpenLaws.{chosen_more, chosen_all}
use Rattle.zi_walk.proofs.open.so_far.Goals as goal

pub loop-i-preserved : goal.loop-i-preserved
loop-i-preserved c =
    let e : length c.interfaces.result.now ≡ length c.args.n.now = ap length (c.interfaces.ensures.interfaces ∙ c.universe.ensures) in
    let less = c.loop-i-test.true in
    chosen_more c.args.n.now (known_from c.args.t.now.entries) c.loop-i.i c.loop-i.picks c.push.new.self c.chosen_at.result (omega (arith, e, less)) c.loop-i.invariant c.chosen_at.ensures c.in_ok-push.ensures.ok

pub returns : goal.returns
returns c =
    let e : length c.interfaces.result.now ≡ length c.args.n.now = ap length (c.interfaces.ensures.interfaces ∙ c.universe.ensures) in
    let more = c.loop-i-test.false in
    chosen_all c.args.n.now (known_from c.args.t.now.entries) c.loop-i.i c.loop-i.picks (omega (arith, e, more)) c.loop-i.invariant
