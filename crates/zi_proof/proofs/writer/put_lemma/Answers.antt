use Rattle.std.proofs.Common.{map, ◌++◌, ◌∷◌, [], ◌∙◌, ap, subst, List, ℕ}
use Rattle.zi_formula.specs.declared.formula.Lit.{Lit}
use Rattle.zi_proof.specs.Writing.{Puts}
use Rattle.zi_proof.specs.ProofText.{behind, lit_word, zero_word, hint_words, lemma_line}
use Rattle.zi_proof.proofs.WriteLaws.{put_three, lemma_end}
use Rattle.zi_proof.proofs.writer.put_lemma.Goals as goal

pub returns : goal.returns
returns c =
    put_three c.args.into.now.items c.put_byte.new.into.items c.put_lits_end.new.into.items c.put_hints.new.into.items (108 ∷ []) (behind 32 (map lit_word c.args.m.now.lits ++ zero_word ∷ [])) (behind 32 (hint_words c.args.m.now.hints) ++ 10 ∷ []) (lemma_line c.args.m.now ++ 10 ∷ []) c.put_hints.result
    c.in_ok-put_byte.ensures (c.in_ok-put_lits_end.ensures ∙ ap (λ (x : List Lit). c.put_byte.new.into.items ++ behind 32 (map lit_word x ++ zero_word ∷ [])) c.as_slice.ensures) (lemma_end c.args.m.now) (subst (λ (x : List ℕ). Puts c.put_lits_end.new.into.items (behind 32 (hint_words x) ++ 10 ∷ []) c.put_hints.result c.put_hints.new.into.items) c.as_slice-2.ensures c.put_hints.ensures)
