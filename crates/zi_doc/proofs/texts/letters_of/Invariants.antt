use Rattle.std.proofs.Common.{◌≡◌, take, encode_utf8_all}
use Rattle.zi_doc.proofs.texts.letters_of.Given as goal

abbrev pub invariant-loop-c : goal.invariant-loop-c
invariant-loop-c l = l.letters ≡ encode_utf8_all (take l.c-index l.chars)
