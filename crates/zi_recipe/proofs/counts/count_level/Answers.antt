use Rattle.std.proofs.Common.{◌<◌, ◌+◌, sym, subst, refl, arith}
use Rattle.zi_tree.specs.Limits.{nodes_limit}
use Rattle.zi_recipe.specs.Levels.{trees, entries_in, StopsCounting}
use Rattle.zi_recipe.proofs.LevelLemmas.{inner_next, counted_next, entries_front}
use Rattle.zi_recipe.proofs.counts.count_level.Goals as goal

pub loop-folder-preserved : goal.loop-folder-preserved
loop-folder-preserved c =
    let ts = c.args.level.now in
    let i = c.loop-folder.folder-index in
    let t = c.folder-item.result in
    let e = counted_next ts i t c.loop-folder-test.true c.folder-item.is in
    record {
      inner = inner_next ts i t (trees c.loop-folder.next.items) (trees c.add_folders.new.into.items) c.loop-folder-test.true c.folder-item.is c.loop-folder.invariant.inner c.in_ok-add_folders.ensures;
      counted = omega (arith, e, c.len-more.ensures, c.loop-folder.invariant.counted);
      few = omega arith;
    }

pub returns-then-more-nodes : goal.returns-then-more-nodes
returns-then-more-nodes c =
    let ts = c.args.level.now in
    let i = c.loop-folder.folder-index in
    let t = c.folder-item.result in
    let e = counted_next ts i t c.loop-folder-test.true c.folder-item.is in
    let many : nodes_limit < c.args.nodes.now + entries_in (trees ts) = omega (arith, e, c.len-more.ensures, c.loop-folder.invariant.counted, entries_front ts (i + 1)) in
    subst (StopsCounting (trees ts) c.args.nodes.now) (sym c.too_large.ensures) (refl, refl, many)
