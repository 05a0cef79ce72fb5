use Rattle.std.proofs.Common.{arith}
use Rattle.zi_check.specs.Parts.{IsOf}
use Rattle.zi_check.proofs.ValidLaws.{none_more, one_there, none_there}
use Rattle.zi_check.proofs.meeting.some_are.Goals as goal

pub loop-i-init : goal.loop-i-init
loop-i-init c = λ j l p. absurd (omega (arith, l))

pub returns-then-is_of : goal.returns-then-is_of
returns-then-is_of c = one_there (IsOf c.args.on.now c.args.width) c.args.interfaces c.loop-i.i c.is_of.result c.loop-i-test.true c.is_of.ensures c.if-is_of.true

pub loop-i-preserved : goal.loop-i-preserved
loop-i-preserved c = none_more (IsOf c.args.on.now c.args.width) c.loop-i.i c.is_of.result c.loop-i.invariant c.is_of.ensures c.if-is_of.false

pub returns : goal.returns
returns c = none_there (IsOf c.args.on.now c.args.width) c.args.interfaces c.loop-i.i c.loop-i.invariant c.loop-i-test.false
