use Rattle.std.proofs.Common.{take}
use Rattle.zi_choosing.specs.NamedParts.{AreTheirPlaces}
use Rattle.zi_choosing.proofs.named.places_of.Given as goal

abbrev pub invariant-loop-place : goal.invariant-loop-place
invariant-loop-place l = AreTheirPlaces (take l.place l.items) l.by_interface.entries
