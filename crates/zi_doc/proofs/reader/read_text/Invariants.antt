use Rattle.std.proofs.Common.{◌≡◌, ◌+◌, length}
use Rattle.std.specs.Str.{chars, IsUtf8}
use Rattle.std.specs.Str.Iter.{chars_rest}
use Rattle.zi_xml.specs.Machine.{answer, first_state}
use Rattle.zi_doc.specs.View.{state_of, IsSound}
use Rattle.zi_doc.proofs.reader.read_text.Given as goal

-- the answer to what is left is the answer to all
abbrev pub invariant-loop-c : goal.invariant-loop-c
invariant-loop-c l = record {
  can : (goal.iterator-loop-c).can_next l.rest;
  ends : (goal.iterator-loop-c).is_finite l.rest;
  utf8 : IsUtf8 (chars_rest l.rest);
  told : answer (state_of l.reader l.at) (chars (chars_rest l.rest)) ≡ answer first_state (chars l.text);
  room : l.at + length (chars_rest l.rest) ≡ length l.text;
  sound : IsSound l.reader;
}
