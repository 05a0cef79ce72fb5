use Rattle.std.proofs.Common.{arith}
use Rattle.std.specs.Fmt.{signed_decimal}
use Rattle.zi_manifest.proofs.Cuts.{signed_has}
use Rattle.zi_manifest.proofs.WordLemmas.{cut_is}
use Rattle.zi_manifest.proofs.words.time_word.Goals as goal

pub returns-in-None : goal.returns-in-None
returns-in-None c = λ z r low e.
    c.in-None.ensures z low (cut_is c.args.text.now c.in_ok-word.word.now (signed_decimal z) c.in_ok-word.behind.now r c.in_ok-word.ensures (signed_has 32 z (omega arith) low) e)
