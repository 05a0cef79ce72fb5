use Rattle.std.proofs.Common.{◌≡◌, length}
use Rattle.zi_hints.specs.Spot.{last_line}
use Rattle.zi_hints.proofs.spot.last_line.Given as goal

abbrev pub invariant-loop-byte : goal.invariant-loop-byte
invariant-loop-byte l = last_line l.line l.left ≡ last_line l.bytes l.bytes

abbrev pub decreases-loop-byte : goal.decreases-loop-byte
decreases-loop-byte l = length l.left
