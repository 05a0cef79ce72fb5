use Rattle.std.proofs.Common.{◌≡◌, map, take}
use Rattle.zi_choice.specs.Traces.{as_use}
use Rattle.zi_choice.specs.Stops.{uses_of}
use Rattle.zi_choice.proofs.traced.uses.Given as goal

abbrev pub invariant-loop-stop : goal.invariant-loop-stop
invariant-loop-stop l = map as_use l.uses ≡ uses_of (take l.stop-index l.stops)
