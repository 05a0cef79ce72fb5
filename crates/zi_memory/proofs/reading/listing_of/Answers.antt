use Rattle.std.proofs.Common.{◌≤◌, length, arith}
use Rattle.zi_tree.specs.Paths.{items}
use Rattle.zi_shelf.proofs.ReadingLemmas.{listed_next, lists_whole}
use Rattle.zi_memory.proofs.reading.listing_of.Goals as goal

pub loop-i-preserved : goal.loop-i-preserved
loop-i-preserved c =
    listed_next (items c.args.folder.now) c.loop-i.i c.loop-i.entries c.push.new.self c.name_at.result.now c.in_ok-name.name c.node_at.result.now c.kind_in-kind.result c.loop-i.invariant c.name_at.ensures c.in_ok-name.ensures c.node_at.ensures c.kind_in-kind.ensures
    c.in_ok-push.ensures.ok

pub returns : goal.returns
returns c =
    let past : length (items c.args.folder.now) ≤ c.loop-i.i = omega arith in
    lists_whole c.args.folder.now c.loop-i.i c.loop-i.entries c.loop-i.invariant past c.is_whole.ensures
