use Rattle.zi_facts.specs.Facts.{owner_var, told_need}
use Rattle.zi_facts.proofs.TellLaws.{tells_flat}
use Rattle.zi_facts.specs.Telling.{universe_of, Tells}
use Rattle.zi_facts.proofs.telling.tell_needs.Goals as goal

pub loop-dep-preserved : goal.loop-dep-preserved
loop-dep-preserved c =
    tells_flat c.args.facts.now.items c.loop-dep.facts.items c.tell_need.new.facts.items (told_need (universe_of c.args.on.now) (owner_var c.args.owner)) c.args.deps.now c.loop-dep.dep-index c.dep-item.result c.loop-dep-test.true c.dep-item.is c.loop-dep.invariant c.in_ok-tell_need.ensures
