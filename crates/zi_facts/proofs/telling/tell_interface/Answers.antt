use Rattle.zi_choice.specs.Vars.{candidates_of}
use Rattle.zi_facts.specs.Facts.{told_candidate}
use Rattle.zi_facts.proofs.TellLaws.{tells_over}
use Rattle.zi_facts.specs.Telling.{universe_of, Tells}
use Rattle.zi_facts.proofs.telling.tell_interface.Goals as goal

pub loop-c-preserved : goal.loop-c-preserved
loop-c-preserved c =
    tells_over c.args.facts.now.items c.loop-c.facts.items c.tell_candidate.new.facts.items (told_candidate (universe_of c.args.on.now) c.args.i) (candidates_of (universe_of c.args.on.now) c.args.i) c.candidates-k-items.result.now c.loop-c.c c.k-item.result c.candidates-k-items.ensures.is c.loop-c-test.true c.k-item.is c.loop-c.invariant c.in_ok-tell_candidate.ensures
