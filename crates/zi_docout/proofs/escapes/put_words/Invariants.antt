use Rattle.std.proofs.Common.{◌≡◌, ◌++◌, take}
use Rattle.zi_docout.specs.Canonical.{words_text}
use Rattle.zi_docout.proofs.escapes.put_words.Given as goal

abbrev pub invariant-loop-b : goal.invariant-loop-b
invariant-loop-b l = l.text.items ≡ l.initial.text.items ++ words_text (take l.b-index l.words)
