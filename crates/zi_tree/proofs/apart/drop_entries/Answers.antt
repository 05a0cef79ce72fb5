use Rattle.zi_tree.proofs.Hung.{tree_popped, tree_inside, left_smaller}
use Rattle.zi_tree.proofs.Sizes.{size_popped}
use Rattle.zi_tree.proofs.apart.drop_entries.Goals as goal

pub loop-name-smaller-in-None : goal.loop-name-smaller-in-None
loop-name-smaller-in-None c = size_popped c.loop-name.left.items c.pop.new.self.items c.in-Some.field-0 c.in-Some.ensures.items

pub loop-name-preserved-in-None : goal.loop-name-preserved-in-None
loop-name-preserved-in-None c = tree_popped c.loop-name.left.items c.pop.new.self.items c.in-Some.field-0 c.in-Some.ensures.items c.loop-name.invariant

pub down-left-requires-in-Some-folder-clause-above : goal.down-left-requires-in-Some-folder-clause-above
down-left-requires-in-Some-folder-clause-above c = tree_inside c.loop-name.left.items c.pop.new.self.items c.in-Some-folder.above.items c.in-Some.field-0 c.in-Some.ensures.items c.loop-name.invariant c.in-Some-folder.ensures

pub down-left-requires-in-Some-folder-clause-here : goal.down-left-requires-in-Some-folder-clause-here
down-left-requires-in-Some-folder-clause-here c = tree_popped c.loop-name.left.items c.pop.new.self.items c.in-Some.field-0 c.in-Some.ensures.items c.loop-name.invariant

pub loop-name-smaller : goal.loop-name-smaller
loop-name-smaller c = left_smaller c.loop-name.left.items c.pop.new.self.items c.in-Some-folder.above.items c.down-left-in-Some-folder.result.items c.in-Some.field-0 c.in-Some.ensures.items c.in-Some-folder.ensures c.down-left-in-Some-folder.ensures.size
