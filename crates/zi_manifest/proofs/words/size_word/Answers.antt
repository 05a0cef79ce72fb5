use Rattle.std.proofs.Common.{arith}
use Rattle.std.specs.Prelude.{decimal}
use Rattle.zi_manifest.proofs.Cuts.{decimal_has}
use Rattle.zi_manifest.proofs.WordLemmas.{cut_is}
use Rattle.zi_manifest.proofs.words.size_word.Goals as goal

pub returns-in-None : goal.returns-in-None
returns-in-None c = λ n r low e.
    c.in-None.ensures n low (cut_is c.args.text.now c.in_ok-word.word.now (decimal n) c.in_ok-word.behind.now r c.in_ok-word.ensures (decimal_has 32 n (omega arith) low) e)
