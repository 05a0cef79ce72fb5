use Rattle.std.proofs.Common.{length}
use Rattle.zi_conflict.specs.Ground.{formula_of}
use Rattle.zi_conflict.specs.Resting.{numbers_to}
use Rattle.zi_conflict.proofs.PartLaws.{part_whole, core_more}
use Rattle.zi_conflict.proofs.cores.least.Goals as goal

pub loop-k-init : goal.loop-k-init
loop-k-init c = (part_whole c.args.kept.now.items, c.requires.core.1)

pub lessen-requires-clause-core : goal.lessen-requires-clause-core
lessen-requires-clause-core c =
    let f = formula_of c.args.on.now in
    core_more f (numbers_to (length f.constraints)) c.args.kept.now.items c.loop-k.kept.items c.requires.core c.loop-k.invariant

pub loop-k-preserved : goal.loop-k-preserved
loop-k-preserved c = core_more (formula_of c.args.on.now) c.args.kept.now.items c.loop-k.kept.items c.lessen.new.kept.items c.loop-k.invariant c.in_ok-lessen.ensures
