-- What was yielded is shown.
use Rattle.std.specs.List.{flat_map}
use Rattle.std.specs.Io.KnownBytes.{Appends}
use Rattle.std.specs.Str.{encode_utf8_all}
use Rattle.zi_shown.specs.Shown.{visible}
use Rattle.zi_shown.proofs.show_chars.Given as goal

abbrev pub invariant-loop-c : goal.invariant-loop-c
invariant-loop-c g l = Appends (g.W.Write.contents l.initial.writer) (g.W.Write.contents l.writer) (encode_utf8_all (flat_map visible l.yielded))
