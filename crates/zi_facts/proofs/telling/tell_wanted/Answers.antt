use Rattle.std.proofs.Common.{◌∷◌, [], ap}
use Rattle.zi_choice.specs.Vars.{candidates_of}
use Rattle.zi_facts.specs.Facts.{told_wanted, Wanted}
use Rattle.zi_facts.proofs.TellLaws.{tells_over, tells_as}
use Rattle.zi_facts.specs.Telling.{universe_of, Tells}
use Rattle.zi_facts.proofs.telling.tell_wanted.Goals as goal

pub loop-c-preserved : goal.loop-c-preserved
loop-c-preserved c =
    tells_over c.args.facts.now.items c.loop-c.facts.items c.tell.new.facts.items (told_wanted c.args.name.now) (candidates_of (universe_of c.args.on.now) 0) c.candidates-k-items.result.now c.loop-c.c c.k-item.result c.candidates-k-items.ensures.is c.loop-c-test.true c.k-item.is c.loop-c.invariant
    (tells_as c.loop-c.facts.items c.tell.new.facts.items (Wanted c.loop-c.c c.place_in-place.result ∷ []) (told_wanted c.args.name.now c.loop-c.c c.k-item.result) (ap (λ o. Wanted c.loop-c.c o ∷ []) c.place_in-place.ensures) c.in_ok-tell.ensures)
