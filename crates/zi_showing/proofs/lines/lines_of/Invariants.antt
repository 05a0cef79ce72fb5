use Rattle.std.proofs.Common.{◌≡◌, map, take, flat_map}
use Rattle.zi_showing.specs.Steps.{place_seen, place_text}
use Rattle.zi_showing.proofs.lines.lines_of.Given as goal

abbrev pub invariant-loop-place : goal.invariant-loop-place
invariant-loop-place l = l.text.items ≡ flat_map (place_text l.names.keys) (map place_seen (take l.place-index l.places))
