use Rattle.zi_facts.specs.Facts.{owner_var, told_name}
use Rattle.zi_facts.proofs.TellLaws.{naming_more}
use Rattle.zi_facts.specs.Telling.{universe_of, Tells}
use Rattle.zi_facts.proofs.telling.tell_naming.Goals as goal

pub loop-name-preserved : goal.loop-name-preserved
loop-name-preserved c =
    naming_more (universe_of c.args.on.now) (owner_var c.args.owner) c.args.dep.now c.args.j c.args.dep.now.commands c.as_slice-name-items.result.now c.loop-name.name-index c.name-item.result c.args.facts.now.items c.loop-name.facts.items c.tell_all_named.new.facts.items c.requires.target c.as_slice-name-items.ensures c.loop-name-test.true c.name-item.is c.loop-name.invariant c.in_ok-tell_all_named.ensures
