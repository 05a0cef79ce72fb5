use Rattle.std.proofs.Common.{◌∙◌, ◌++◌, ◌∷◌, [], sym, ap}
use Rattle.zi_choice.specs.Stops.{uses_of}
use Rattle.zi_choice.proofs.StopLaws.{uses_next}
use Rattle.zi_choice.proofs.traced.uses.Goals as goal

pub loop-stop-preserved : goal.loop-stop-preserved
loop-stop-preserved c =
    c.in_ok-add_use.ensures ∙ ap (λ ps. ps ++ uses_of (c.stop-item.result ∷ [])) c.loop-stop.invariant
    ∙ sym (uses_next c.args.stops.now c.loop-stop.stop-index c.stop-item.result c.loop-stop-test.true c.stop-item.is)
