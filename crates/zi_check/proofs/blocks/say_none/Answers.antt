use Rattle.std.proofs.Common.{length, refl}
use Rattle.zi_check.specs.Taking.{interfaces_of}
use Rattle.zi_check.proofs.TakeLaws.{said_more, said_all}
use Rattle.zi_check.proofs.blocks.say_none.Goals as goal

pub loop-c-preserved : goal.loop-c-preserved
loop-c-preserved c =
    said_more (interfaces_of c.args.on.now) c.args.i c.args.before.now.items c.loop-c.before.items c.push.new.self.items c.loop-c.c (length c.candidates.result.now) c.candidates.result.now c.lit.result c.candidates.ensures.is c.loop-c-test.true refl c.loop-c.invariant c.lit.ensures c.in_ok-push.ensures.items

pub returns : goal.returns
returns c =
    said_all (interfaces_of c.args.on.now) c.args.i c.args.before.now.items c.loop-c.before.items c.loop-c.c (length c.candidates.result.now) c.candidates.result.now c.candidates.ensures.is c.loop-c-test.false refl c.loop-c.invariant
