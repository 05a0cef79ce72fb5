use Rattle.std.proofs.Common.{length, get_or, refl}
use Rattle.zi_formula.specs.Lent.{shows}
use Rattle.zi_conflict.specs.Ground.{formula_of}
use Rattle.zi_conflict.proofs.PartLaws.{own_at, only_next, only_end}
use Rattle.zi_conflict.proofs.cores.only.Goals as goal

pub at-requires : goal.at-requires
at-requires c = own_at (length (formula_of c.args.on.now).constraints) c.args.numbers.now c.loop-n.n-index (get_or c.args.numbers.now c.loop-n.n-index 0) c.requires c.loop-n-test.true refl

pub loop-n-preserved : goal.loop-n-preserved
loop-n-preserved c =
    only_next (formula_of c.args.on.now).constraints c.args.numbers.now c.loop-n.n-index (get_or c.args.numbers.now c.loop-n.n-index 0) (shows c.at.result) c.loop-n.constraints c.push.new.self c.loop-n-test.true refl c.at.ensures c.loop-n.invariant c.in_ok-push.ensures.ok

pub returns : goal.returns
returns c = only_end (formula_of c.args.on.now) c.args.numbers.now c.loop-n.n-index c.loop-n.constraints c.loop-n-test.false c.loop-n.invariant
