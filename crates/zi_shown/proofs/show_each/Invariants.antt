-- A front of the bytes is shown.
use Rattle.std.proofs.Common.{take}
use Rattle.std.specs.List.{flat_map}
use Rattle.std.specs.Io.KnownBytes.{Appends}
use Rattle.zi_shown.specs.Shown.{visible_byte}
use Rattle.zi_shown.proofs.show_each.Given as goal

abbrev pub invariant-loop-byte : goal.invariant-loop-byte
invariant-loop-byte g l = Appends (g.W.Write.contents l.initial.writer) (g.W.Write.contents l.writer) (flat_map visible_byte (take l.byte-index l.bytes))
