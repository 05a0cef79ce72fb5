use Rattle.std.proofs.Common.{◌∙◌, arith}
use Rattle.zi_choice.specs.Traces.{as_place}
use Rattle.zi_check.proofs.TakeLaws.{pass_took, popped}
use Rattle.zi_check.proofs.blocks.pass.Goals as goal

pub returns : goal.returns
returns c =
    let ok = c.push.new.self.ok in
    record {
      took = pass_took c.args.on.now c.args.n c.args.before.now.items (as_place c.args.p.now) c.args.c c.is_passed.result c.lit-so.result c.as_slice.result.now c.args.next.now c.take-is_right.result c.take-is_right.new.next c.is_passed.ensures c.if-not-is_passed.false c.lit-so.ensures (c.as_slice.ensures.value ∙ c.in_ok-push.ensures.items) c.take-is_right.ensures.took;
      before = popped c.args.before.now.items c.push.new.self.items c.pop.new.self.items c.lit-so.result c.push.new.self.len c.in_ok-push.ensures.items (omega (arith, ok)) c.pop.ensures.rest;
      same = c.take-is_right.ensures.same;
    }
