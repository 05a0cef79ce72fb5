-- A proof text has one certificate.
use Rattle.std.proofs.Common.{◌≡◌, ℕ, List, [], ◌∷◌, ◌++◌, map, refl, sym, ap, ap₂, ◌∙◌, arith, append_assoc, Option, Some, length, length-append}
use Rattle.std.specs.List.{All}
use Rattle.std.proofs.lemmas.List.Elements.{All-head, All-tail}
use Rattle.std.proofs.lemmas.Option.{same_Some}
use Rattle.zi_proof.specs.declared.proof.Lemma.{Lemma}
use Rattle.zi_proof.specs.declared.proof.Block.{Block}
use Rattle.zi_proof.specs.declared.proof.Certificate.{Certificate}
use Rattle.zi_proof.specs.ProofText.{all_pieces, LemmaNumbered, BlockNumbered, lemma_words, block_words, lemma_line, block_line, header, end_line, certificate_lines}
use Rattle.zi_proof.specs.Reading.{lemma_of, block_of}
use Rattle.zi_proof.specs.Laws.{ATextHasOneCertificate}
use Rattle.zi_proof.proofs.NumberLaws.{lemma_read, block_read}
use Rattle.zi_proof.proofs.FreeLaws.{lemma_pieces, block_pieces, certificate_pieces}
use Rattle.zi_proof.proofs.LineLaws.{head_same, tail_same, not_block, lemma_not_end, block_not_end, no_lemma_first}

some_block : (b c : Block) → ◌≡◌ {A = Option Block} (Some b) (Some c) → b ≡ c
some_block b c e = cc

one_lemma : (m n : Lemma) → LemmaNumbered m → LemmaNumbered n → lemma_line m ≡ lemma_line n → m ≡ n
one_lemma m n r s e =
    let words = tail_same (108 ∷ []) (108 ∷ []) (lemma_words m) (lemma_words n) (sym (lemma_pieces m r) ∙ ap (all_pieces 32) e ∙ lemma_pieces n s) in
    same_Some m n (sym (lemma_read m r) ∙ ap lemma_of words ∙ lemma_read n s)

one_block : (b c : Block) → BlockNumbered b → BlockNumbered c → block_line b ≡ block_line c → b ≡ c
one_block b c r s e =
    let words = tail_same (98 ∷ []) (98 ∷ []) (block_words b) (block_words c) (sym (block_pieces b r) ∙ ap (all_pieces 32) e ∙ block_pieces c s) in
    some_block b c (sym (block_read b r) ∙ ap block_of words ∙ block_read c s)

one_blocks : (bs cs : List Block) → All BlockNumbered bs → All BlockNumbered cs → map block_line bs ++ end_line ∷ [] ≡ map block_line cs ++ end_line ∷ [] → bs ≡ cs
one_blocks [] [] r s e = refl
one_blocks [] (c ∷ cs) r s e = absurd (block_not_end c (sym (head_same end_line (block_line c) [] (map block_line cs ++ end_line ∷ []) e)))
one_blocks (b ∷ bs) [] r s e = absurd (block_not_end b (head_same (block_line b) end_line (map block_line bs ++ end_line ∷ []) [] e))
one_blocks (b ∷ bs) (c ∷ cs) r s e =
    ap₂ (λ x xs. x ∷ xs) (one_block b c (All-head BlockNumbered b bs r) (All-head BlockNumbered c cs s) (head_same (block_line b) (block_line c) (map block_line bs ++ end_line ∷ []) (map block_line cs ++ end_line ∷ []) e))
    (one_blocks bs cs (All-tail BlockNumbered b bs r) (All-tail BlockNumbered c cs s) (tail_same (block_line b) (block_line c) (map block_line bs ++ end_line ∷ []) (map block_line cs ++ end_line ∷ []) e))

abbrev One : List Lemma → List Lemma → List Block → List Block → Type 0
One ms ns bs cs = (ms ≡ ns) × (bs ≡ cs)

one_parts : (ms ns : List Lemma) (bs cs : List Block) → All LemmaNumbered ms → All LemmaNumbered ns → All BlockNumbered bs → All BlockNumbered cs
    → map lemma_line ms ++ (map block_line bs ++ end_line ∷ []) ≡ map lemma_line ns ++ (map block_line cs ++ end_line ∷ []) → One ms ns bs cs
one_parts [] [] bs cs r s p q e = (refl, one_blocks bs cs p q e)
one_parts [] (n ∷ ns) bs cs r s p q e = absurd (no_lemma_first n (map lemma_line ns ++ (map block_line cs ++ end_line ∷ [])) bs (sym e))
one_parts (m ∷ ms) [] bs cs r s p q e = absurd (no_lemma_first m (map lemma_line ms ++ (map block_line bs ++ end_line ∷ [])) cs e)
one_parts (m ∷ ms) (n ∷ ns) bs cs r s p q e =
    let xs = map lemma_line ms ++ (map block_line bs ++ end_line ∷ []) in
    let ys = map lemma_line ns ++ (map block_line cs ++ end_line ∷ []) in
    let k : One ms ns bs cs = one_parts ms ns bs cs (All-tail LemmaNumbered m ms r) (All-tail LemmaNumbered n ns s) p q (tail_same (lemma_line m) (lemma_line n) xs ys e) in
    (ap₂ (λ z zs. z ∷ zs) (one_lemma m n (All-head LemmaNumbered m ms r) (All-head LemmaNumbered n ns s) (head_same (lemma_line m) (lemma_line n) xs ys e)) k.0, k.1)

cut_last : (xs ys : List (List ℕ)) → xs ++ [] ∷ [] ≡ ys ++ [] ∷ [] → xs ≡ ys
cut_last [] [] e = refl
cut_last [] (y ∷ ys) e = absurd (omega (arith, ap length e, length-append ys ([] ∷ [])))
cut_last (x ∷ xs) [] e = absurd (omega (arith, ap length e, length-append xs ([] ∷ [])))
cut_last (x ∷ xs) (y ∷ ys) e = ap₂ (λ z zs. z ∷ zs) (head_same x y (xs ++ [] ∷ []) (ys ++ [] ∷ []) e) (cut_last xs ys (tail_same x y (xs ++ [] ∷ []) (ys ++ [] ∷ []) e))

same_parts : (c d : Certificate) → One c.proof.lemmas d.proof.lemmas c.blocks d.blocks → c ≡ d
same_parts c d o = ap₂ (λ ms bs. record { proof = record { lemmas = ms }; blocks = bs }) o.0 o.1

pub a_text_has_one_certificate : ATextHasOneCertificate
a_text_has_one_certificate = λ bytes c d r s.
    let lines : certificate_lines c ≡ certificate_lines d = cut_last (certificate_lines c) (certificate_lines d) (sym (certificate_pieces c r.0) ∙ ap (all_pieces 10) (sym r.1 ∙ s.1) ∙ certificate_pieces d s.0) in
    same_parts c d (one_parts c.proof.lemmas d.proof.lemmas c.blocks d.blocks r.0.0 s.0.0 r.0.1 s.0.1
    (sym (append_assoc (map lemma_line c.proof.lemmas) (map block_line c.blocks) (end_line ∷ []))
    ∙ tail_same header header ((map lemma_line c.proof.lemmas ++ map block_line c.blocks) ++ end_line ∷ []) ((map lemma_line d.proof.lemmas ++ map block_line d.blocks) ++ end_line ∷ []) lines
    ∙ append_assoc (map lemma_line d.proof.lemmas) (map block_line d.blocks) (end_line ∷ [])))
