use Rattle.zi_tree.proofs.Hung.{popped, entered, inside_smaller}
use Rattle.zi_tree.proofs.Sizes.{size_popped}
use Rattle.zi_tree.proofs.apart.down.Goals as goal

pub loop-name-smaller-in-None : goal.loop-name-smaller-in-None
loop-name-smaller-in-None c = size_popped c.loop-name.here.items c.pop.new.self.items c.in-Some.field-0 c.in-Some.ensures.items

pub loop-name-preserved-in-None : goal.loop-name-preserved-in-None
loop-name-preserved-in-None c = popped c.loop-name.above.items c.loop-name.here.items c.pop.new.self.items c.in-Some.field-0 _ c.in-Some.ensures.items c.loop-name.invariant

pub loop-name-smaller : goal.loop-name-smaller
loop-name-smaller c = inside_smaller c.loop-name.here.items c.pop.new.self.items c.in-Some-folder.inside.items c.in-Some.field-0 c.in-Some.ensures.items c.in-Some-folder.ensures

pub loop-name-preserved : goal.loop-name-preserved
loop-name-preserved c = entered c.loop-name.above.items c.loop-name.here.items c.pop.new.self.items c.in-Some-folder.inside.items c.push.new.self.items c.in-Some.field-0 _ c.in-Some.ensures.items c.in-Some-folder.ensures c.in-Ok.ensures.items c.loop-name.invariant
