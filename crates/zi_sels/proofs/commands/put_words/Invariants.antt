use Rattle.std.proofs.Common.{map, take}
use Rattle.zi_sels.specs.Written.{word_elem}
use Rattle.zi_docout.specs.Elements.{Adds}
use Rattle.zi_sels.proofs.commands.put_words.Given as goal

abbrev pub invariant-loop-word : goal.invariant-loop-word
invariant-loop-word l = Adds l.initial.children l.children (map word_elem (take l.word-index l.words))
