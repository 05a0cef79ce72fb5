use Rattle.std.proofs.Common.{◌∙◌, ◌++◌, ◌∷◌, [], sym, ap}
use Rattle.zi_choice.specs.Stops.{places_of}
use Rattle.zi_choice.proofs.StopLaws.{places_next}
use Rattle.zi_choice.proofs.traced.places.Goals as goal

pub loop-stop-preserved : goal.loop-stop-preserved
loop-stop-preserved c =
    c.in_ok-add_place.ensures ∙ ap (λ ps. ps ++ places_of c.args.picks.now (c.stop-item.result ∷ [])) c.loop-stop.invariant
    ∙ sym (places_next c.args.picks.now c.args.stops.now c.loop-stop.stop-index c.stop-item.result c.loop-stop-test.true c.stop-item.is)
