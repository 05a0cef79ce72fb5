use Rattle.std.proofs.Common.{map, ◌∷◌, []}
use Rattle.zi_proof.specs.ProofText.{behind, lit_word}
use Rattle.zi_proof.proofs.WriteLaws.{put_both, puts_as, lits_end}
use Rattle.zi_proof.proofs.writer.put_lits_end.Goals as goal

pub returns : goal.returns
returns c =
    puts_as c.args.into.now.items c.put.new.into.items _ _ c.put.result (lits_end c.args.lits.now)
    (put_both c.args.into.now.items c.put_lits.new.into.items c.put.new.into.items (behind 32 (map lit_word c.args.lits.now)) (32 ∷ 48 ∷ []) c.put.result c.in_ok-put_lits.ensures c.put.ensures)
