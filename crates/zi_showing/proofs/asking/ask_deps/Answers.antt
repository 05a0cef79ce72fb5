use Rattle.std.proofs.Common.{◌-◌, refl, arith}
use Rattle.zi_universe.specs.Candidates.{asked}
use Rattle.zi_showing.specs.Steps.{asked_in}
use Rattle.zi_showing.proofs.PieceLaws.{asks_none, asks_more, asks_all, asked_alone, dep_next}
use Rattle.zi_showing.proofs.asking.ask_deps.Goals as goal

pub loop-n-init : goal.loop-n-init
loop-n-init c = asks_none asked asked_alone dep_next c.args.level c.args.deps.now (asked_in c.args.pending.now.items) refl

pub loop-n-preserved : goal.loop-n-preserved
loop-n-preserved c =
    asks_more asked asked_alone dep_next c.args.level c.args.deps.now (c.loop-n.n - 1) c.loop-n.n c.index-deps-n.result (asked_in c.args.pending.now.items) (asked_in c.loop-n.pending.items) (asked_in c.ask_dep.new.pending.items)
    (omega arith) (omega arith) c.index-deps-n.is c.in_ok-ask_dep.ensures c.loop-n.invariant

pub returns : goal.returns
returns c = asks_all asked asked_alone dep_next c.args.level c.args.deps.now c.loop-n.n (asked_in c.args.pending.now.items) (asked_in c.loop-n.pending.items) (omega arith) c.loop-n.invariant
