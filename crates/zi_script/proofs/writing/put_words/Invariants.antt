-- The words before a place were added.
use Rattle.std.proofs.Common.{◌≡◌, ◌++◌, take, string_bytes}
use Rattle.zi_shim.specs.Shim.{quoted_words}
use Rattle.zi_script.proofs.writing.put_words.Given as goal

abbrev pub invariant-loop-word : goal.invariant-loop-word
invariant-loop-word l = string_bytes l.out ≡ string_bytes l.fn.out ++ quoted_words (take l.word-index l.words)
