use Rattle.std.proofs.Common.{map, ◌++◌, ◌∷◌, [], ◌∙◌, ap, List}
use Rattle.zi_proof.specs.declared.proof.Lemma.{Lemma}
use Rattle.zi_proof.specs.declared.proof.Block.{Block}
use Rattle.zi_proof.specs.ProofText.{lines_text, lemma_line, block_line, header, end_line, certificate_text}
use Rattle.zi_proof.proofs.WriteLaws.{put_four, certificate_end}
use Rattle.zi_proof.proofs.writer.put_certificate.Goals as goal

pub returns : goal.returns
returns c =
    put_four c.args.into.now.items c.put.new.into.items c.put_lemmas.new.into.items c.put_blocks.new.into.items c.put-2.new.into.items (header ++ 10 ∷ []) (lines_text (map lemma_line c.args.c.now.proof.lemmas)) (lines_text (map block_line c.args.c.now.blocks)) (end_line ++ 10 ∷ []) (certificate_text c.args.c.now) c.put-2.result
    c.in_ok-put.ensures (c.in_ok-put_lemmas.ensures ∙ ap (λ (x : List Lemma). c.put.new.into.items ++ lines_text (map lemma_line x)) c.as_slice.ensures) (c.in_ok-put_blocks.ensures ∙ ap (λ (x : List Block). c.put_lemmas.new.into.items ++ lines_text (map block_line x)) c.as_slice-2.ensures) (certificate_end c.args.c.now) c.put-2.ensures
