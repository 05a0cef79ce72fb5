use Rattle.std.proofs.Common.{length, reverse}
use Rattle.zi_manifest.specs.Reading.{IsRead}
use Rattle.zi_manifest.proofs.reading.read.Given as goal

abbrev pub invariant-loop-rest : goal.invariant-loop-rest
invariant-loop-rest l = IsRead l.a l.bytes l.rest l.number l.lines (reverse l.folders.items)

abbrev pub decreases-loop-rest : goal.decreases-loop-rest
decreases-loop-rest l = length l.rest
