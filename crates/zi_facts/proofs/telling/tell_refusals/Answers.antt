use Rattle.zi_choice.specs.Vars.{candidates_of}
use Rattle.zi_facts.specs.Facts.{owner_var, told_refusal}
use Rattle.zi_facts.proofs.TellLaws.{tells_over}
use Rattle.zi_facts.specs.Telling.{universe_of, Tells}
use Rattle.zi_facts.proofs.telling.tell_refusals.Goals as goal

pub loop-e-preserved : goal.loop-e-preserved
loop-e-preserved c =
    tells_over c.args.facts.now.items c.loop-e.facts.items c.tell_refusal.new.facts.items (told_refusal (owner_var c.args.owner) c.args.dep.now c.args.j) (candidates_of (universe_of c.args.on.now) c.args.j) c.candidates-k-items.result.now c.loop-e.e c.k-item.result c.candidates-k-items.ensures.is c.loop-e-test.true c.k-item.is c.loop-e.invariant c.in_ok-tell_refusal.ensures
