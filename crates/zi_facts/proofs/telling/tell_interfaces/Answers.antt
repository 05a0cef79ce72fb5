use Rattle.std.proofs.Common.{length, ◌<◌, ◌∙◌, subst}
use Rattle.zi_facts.proofs.TellLaws.{interface_over}
use Rattle.zi_facts.specs.Telling.{universe_of, Tells}
use Rattle.zi_facts.proofs.telling.tell_interfaces.Goals as goal

pub loop-i-preserved : goal.loop-i-preserved
loop-i-preserved c =
    interface_over (universe_of c.args.on.now) c.args.facts.now.items c.loop-i.facts.items c.tell_interface.new.facts.items c.loop-i.i (subst (λ u. c.loop-i.i < length u) (c.interfaces-i-end.ensures.interfaces ∙ c.universe.ensures) c.loop-i-test.true) c.loop-i.invariant c.in_ok-tell_interface.ensures
