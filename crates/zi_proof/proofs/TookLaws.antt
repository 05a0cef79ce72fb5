-- What one more line comes to.
use Rattle.std.proofs.Common.{◌≡◌, ℕ, List, [], ◌∷◌, ◌++◌, map, sym, ap, ◌∙◌, subst, append_assoc, inl, inr}
use Rattle.std.proofs.lemmas.List.{append-nil, map_push}
use Rattle.std.proofs.lemmas.List.Elements.{All-push}
use Rattle.zi_proof.specs.declared.proof.Lemma.{Lemma}
use Rattle.zi_proof.specs.declared.proof.Block.{Block}
use Rattle.zi_proof.specs.declared.line.Line.TheVariants as line
use Rattle.zi_proof.specs.ProofText.{LemmaNumbered, BlockNumbered, lemma_line, block_line, header}
use Rattle.zi_proof.specs.Reading.{Says, front_lines, PartsNumbered, Next}
use Rattle.zi_proof.proofs.LineLaws.{not_block, lemma_not_end}

front_with : (ms : List Lemma) (bs : List Block) → bs ≡ [] → front_lines ms bs ≡ header ∷ map lemma_line ms
front_with ms bs e = ap (front_lines ms) e ∙ ap (λ ls. header ∷ ls) (append-nil (map lemma_line ms))

pub lemma_more : (ms : List Lemma) (bs : List Block) (m : Lemma) (text : List ℕ) → bs ≡ [] → Says text (line.Lemma m) → front_lines (ms ++ m ∷ []) bs ≡ front_lines ms bs ++ text ∷ []
lemma_more ms bs m text e s =
    front_with (ms ++ m ∷ []) bs e ∙ ap (λ ls. header ∷ ls) (map_push lemma_line ms m ∙ ap (λ l. map lemma_line ms ++ l ∷ []) (sym s.1)) ∙ ap (λ ls. ls ++ text ∷ []) (sym (front_with ms bs e))

pub lemma_numbered : (ms : List Lemma) (bs : List Block) (m : Lemma) (text : List ℕ) → Says text (line.Lemma m) → PartsNumbered ms bs → PartsNumbered (ms ++ m ∷ []) bs
lemma_numbered ms bs m text s p = (All-push LemmaNumbered ms m p.0 s.0, p.1)

pub block_more : (ms : List Lemma) (bs : List Block) (b : Block) (text : List ℕ) → Says text (line.Block b) → front_lines ms (bs ++ b ∷ []) ≡ front_lines ms bs ++ text ∷ []
block_more ms bs b text s =
    ap (λ ls. header ∷ (map lemma_line ms ++ ls)) (map_push block_line bs b ∙ ap (λ l. map block_line bs ++ l ∷ []) (sym s.1))
    ∙ ap (λ ls. header ∷ ls) (sym (append_assoc (map lemma_line ms) (map block_line bs) (text ∷ [])))

pub block_numbered : (ms : List Lemma) (bs : List Block) (b : Block) (text : List ℕ) → Says text (line.Block b) → PartsNumbered ms bs → PartsNumbered ms (bs ++ b ∷ [])
block_numbered ms bs b text s p = (p.0, All-push BlockNumbered bs b p.1 s.0)

pub lemma_late : (bs : List Block) (m : Lemma) (text : List ℕ) → (bs ≡ [] → ⊥) → Says text (line.Lemma m) → Next bs text → ⊥
lemma_late bs m text n s (inl a) = n a.0
lemma_late bs m text n s (inr (inl a)) = not_block m a.0 (sym s.1 ∙ a.1.1)
lemma_late bs m text n s (inr (inr e)) = lemma_not_end m (sym s.1 ∙ e)

pub other_bad : (bs : List Block) (text : List ℕ) → Says text line.Other → Next bs text → ⊥
other_bad bs text s (inl a) = s.0 a.1.0 a.1.1.0 a.1.1.1
other_bad bs text s (inr (inl a)) = s.1 a.0 a.1.0 a.1.1
other_bad bs text s (inr (inr e)) = s.2 e

pub lemma_took : (ms ms2 : List Lemma) (bs : List Block) (m : Lemma) (text : List ℕ) → bs ≡ [] → Says text (line.Lemma m) → ms2 ≡ ms ++ m ∷ []
    → (front_lines ms2 bs ≡ front_lines ms bs ++ text ∷ []) × (PartsNumbered ms bs → PartsNumbered ms2 bs)
lemma_took ms ms2 bs m text e s p =
    (ap (λ xs. front_lines xs bs) p ∙ lemma_more ms bs m text e s, λ r. subst (λ xs. PartsNumbered xs bs) (sym p) (lemma_numbered ms bs m text s r))

pub block_took : (ms : List Lemma) (bs bs2 : List Block) (b : Block) (text : List ℕ) → Says text (line.Block b) → bs2 ≡ bs ++ b ∷ []
    → (front_lines ms bs2 ≡ front_lines ms bs ++ text ∷ []) × (PartsNumbered ms bs → PartsNumbered ms bs2)
block_took ms bs bs2 b text s p =
    (ap (front_lines ms) p ∙ block_more ms bs b text s, λ r. subst (PartsNumbered ms) (sym p) (block_numbered ms bs b text s r))

pub ruleset laws = (lemma_late, other_bad)
