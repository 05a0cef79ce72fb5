use Rattle.zi_tree.specs.Walk.{places}
use Rattle.zi_tree.proofs.WalkLemmas.{entered, fewer}
use Rattle.zi_tree.proofs.walk.places.Goals as goal

pub loop-folder-smaller : goal.loop-folder-smaller
loop-folder-smaller c = fewer c.loop-folder.waiting.items c.pop.new.self.items c.enter-in-Some.new.waiting.items c.in-Some.folder c.in-Some.ensures.items c.in_ok-enter-2.ensures.waiting

pub loop-folder-preserved : goal.loop-folder-preserved
loop-folder-preserved c =
    entered c.loop-folder.waiting.items c.pop.new.self.items c.enter-in-Some.new.waiting.items c.in-Some.folder c.loop-folder.found.items c.push.new.self.items c.enter-in-Some.new.found.items (places c.args.tree.now)
    c.in-Some.ensures.items c.in_ok-push.ensures.items c.in_ok-enter-2.ensures.found c.in_ok-enter-2.ensures.waiting c.loop-folder.invariant
