use Rattle.std.proofs.Common.{◌≡◌, map, take}
use Rattle.zi_choice.specs.Traces.{as_place}
use Rattle.zi_choice.specs.Stops.{places_of}
use Rattle.zi_choice.proofs.traced.places.Given as goal

abbrev pub invariant-loop-stop : goal.invariant-loop-stop
invariant-loop-stop l = map as_place l.places ≡ places_of l.picks (take l.stop-index l.stops)
