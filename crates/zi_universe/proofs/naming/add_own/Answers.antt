use Rattle.std.proofs.Common.{◌≤◌, length, arith}
use Rattle.zi_universe.proofs.LevelLemmas.{own_next, own_end}
use Rattle.zi_universe.proofs.naming.add_own.Goals as goal

pub loop-i-preserved : goal.loop-i-preserved
loop-i-preserved c = own_next c.args.level.now.deps c.loop-i.i c.at-dep.result.now _ _ _ c.at-dep.ensures c.in_ok-add_dep.ensures c.loop-i.invariant

pub returns : goal.returns
returns c =
    let le : length c.args.level.now.deps ≤ c.loop-i.i = omega arith in
    own_end c.args.level.now.deps c.loop-i.i _ _ le c.loop-i.invariant
