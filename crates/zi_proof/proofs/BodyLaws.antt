-- What the reader keeps from line to line.
use Rattle.std.proofs.Common.{◌≡◌, ℕ, ◌+◌, ◌<◌, ◌≤◌, List, [], ◌∷◌, ◌++◌, length, refl, sym, ap, ap₂, ◌∙◌, subst, arith, append_assoc, length-append, Ok}
use Rattle.std.proofs.lemmas.List.Elements.{All-nil}
use Rattle.zi_text.specs.Pieces.{pieces}
use Rattle.zi_proof.specs.declared.proof.Lemma.{Lemma}
use Rattle.zi_proof.specs.declared.proof.Block.{Block}
use Rattle.zi_proof.specs.declared.fault.ProofFault.TheVariants.{Bad}
use Rattle.zi_proof.specs.ProofText.{all_pieces, but_last, header, end_line, behind, LemmaNumbered, BlockNumbered, FaultMeans}
use Rattle.zi_proof.specs.declared.line.Step.{Step}
use Rattle.zi_proof.specs.declared.line.Step.TheVariants as step
use Rattle.zi_proof.specs.Reading.{front_lines, PartsNumbered, Next, Took}
use Rattle.zi_proof.proofs.LineLaws.{bad_early, bad_next}
use Rattle.zi_proof.proofs.FreeLaws.{text_of_pieces, rejoined}

pub record Body (bytes : List ℕ) (ms : List Lemma) (bs : List Block) (left : List (List ℕ)) (taken : ℕ) : Type 0 where
  pub cut : all_pieces 10 bytes ≡ front_lines ms bs ++ left
  pub numbered : PartsNumbered ms bs
  pub some : 0 < length left
  pub count : taken ≡ length (front_lines ms bs)

behind_length : (c : ℕ) (ws : List (List ℕ)) → length ws ≤ length (behind c ws)
behind_length c [] = omega arith
behind_length c (w ∷ ws) = omega (arith, length-append w (behind c ws), behind_length c ws)

-- a text has at most one piece more than bytes
pieces_few : (bytes : List ℕ) → length (all_pieces 10 bytes) ≤ length bytes + 1
pieces_few bytes =
    let e : length bytes ≡ length (rejoined 10 (all_pieces 10 bytes)) = ap length (text_of_pieces 10 bytes (all_pieces 10 bytes) refl) in
    omega (arith, length-append (pieces 10 bytes).0 (behind 10 (pieces 10 bytes).1), behind_length 10 (pieces 10 bytes).1)

-- fewer lines were taken than there are bytes
pub taken_few : (bytes : List ℕ) (ms : List Lemma) (bs : List Block) (left : List (List ℕ)) (taken : ℕ) → Body bytes ms bs left taken → taken ≤ length bytes
taken_few bytes ms bs left taken b =
    omega (arith, b.some, b.count, pieces_few bytes, ap length b.cut, length-append (front_lines ms bs) left)

pub body_starts : (bytes : List ℕ) (left : List (List ℕ)) → all_pieces 10 bytes ≡ header ∷ left → 0 < length left → Body bytes [] [] left 1
body_starts bytes left e some = record { cut = e; numbered = (All-nil LemmaNumbered, All-nil BlockNumbered); some = some; count = refl }

pub body_more : (bytes : List ℕ) (ms ms2 : List Lemma) (bs bs2 : List Block) (left left2 : List (List ℕ)) (text : List ℕ) (taken : ℕ) → Body bytes ms bs left taken → left ≡ text ∷ left2 → 0 < length left2
    → front_lines ms2 bs2 ≡ front_lines ms bs ++ text ∷ [] → (PartsNumbered ms bs → PartsNumbered ms2 bs2) → Body bytes ms2 bs2 left2 (taken + 1)
body_more bytes ms ms2 bs bs2 left left2 text taken b e some f n = record {
  cut = b.cut ∙ ap (λ ls. front_lines ms bs ++ ls) e ∙ sym (append_assoc (front_lines ms bs) (text ∷ []) left2) ∙ ap (λ ls. ls ++ left2) (sym f);
  numbered = n b.numbered;
  some = some;
  count = omega (arith, b.count, ap length f, length-append (front_lines ms bs) (text ∷ []));
}

pub body_next : (bytes : List ℕ) (ms : List Lemma) (bs : List Block) (left left2 : List (List ℕ)) (text : List ℕ) (taken : ℕ) → Body bytes ms bs left taken → left ≡ text ∷ left2 → 0 < length left2
    → (Next bs text → ⊥) → FaultMeans bytes (Bad (taken + 1))
body_next bytes ms bs left left2 text taken b e some n =
    bad_next bytes ms bs text left2 (taken + 1) (b.cut ∙ ap (λ ls. front_lines ms bs ++ ls) e) b.numbered some n (omega (arith, b.count))

pub body_early : (bytes : List ℕ) (ms : List Lemma) (bs : List Block) (left : List (List ℕ)) (taken : ℕ) → Body bytes ms bs left taken → but_last left ≡ [] → FaultMeans bytes (Bad (taken + 1))
body_early bytes ms bs left taken b e = bad_early bytes ms bs left (taken + 1) b.cut b.numbered b.some e (omega (arith, b.count))

abbrev pub TookOk : List ℕ → List Lemma → List Block → Step → List Lemma → List Block → Type 0
TookOk text ms bs step.More ms2 bs2 = (front_lines ms2 bs2 ≡ front_lines ms bs ++ text ∷ []) × (PartsNumbered ms bs → PartsNumbered ms2 bs2)
TookOk text ms bs step.End ms2 bs2 = (text ≡ end_line) × (ms2 ≡ ms) × (bs2 ≡ bs)
TookOk text ms bs step.Bad ms2 bs2 = (Next bs text → ⊥) × (ms2 ≡ ms) × (bs2 ≡ bs)

took_ok : (text : List ℕ) (ms : List Lemma) (bs : List Block) (s : Step) (ms2 : List Lemma) (bs2 : List Block) → Took text ms bs (Ok s) ms2 bs2 → TookOk text ms bs s ms2 bs2
took_ok text ms bs step.More ms2 bs2 t = t
took_ok text ms bs step.End ms2 bs2 t = t
took_ok text ms bs step.Bad ms2 bs2 t = t

pub took_more : (bytes : List ℕ) (ms ms2 : List Lemma) (bs bs2 : List Block) (left left2 : List (List ℕ)) (text : List ℕ) (taken : ℕ) (s : Step) → Body bytes ms bs left taken → left ≡ text ∷ left2 → 0 < length left2
    → s ≡ step.More → Took text ms bs (Ok s) ms2 bs2 → Body bytes ms2 bs2 left2 (taken + 1)
took_more bytes ms ms2 bs bs2 left left2 text taken s b e some is t =
    let k = subst (λ x. TookOk text ms bs x ms2 bs2) is (took_ok text ms bs s ms2 bs2 t) in
    body_more bytes ms ms2 bs bs2 left left2 text taken b e some k.0 k.1

pub took_bad : (bytes : List ℕ) (ms ms2 : List Lemma) (bs bs2 : List Block) (left left2 : List (List ℕ)) (text : List ℕ) (taken : ℕ) (s : Step) → Body bytes ms bs left taken → left ≡ text ∷ left2 → 0 < length left2
    → s ≡ step.Bad → Took text ms bs (Ok s) ms2 bs2 → FaultMeans bytes (Bad (taken + 1))
took_bad bytes ms ms2 bs bs2 left left2 text taken s b e some is t =
    let k = subst (λ x. TookOk text ms bs x ms2 bs2) is (took_ok text ms bs s ms2 bs2 t) in
    body_next bytes ms bs left left2 text taken b e some k.0

pub took_end : (bytes : List ℕ) (ms ms2 : List Lemma) (bs bs2 : List Block) (left left2 : List (List ℕ)) (text : List ℕ) (taken : ℕ) (s : Step) → Body bytes ms bs left taken → left ≡ text ∷ left2
    → s ≡ step.End → Took text ms bs (Ok s) ms2 bs2 → (all_pieces 10 bytes ≡ front_lines ms2 bs2 ++ end_line ∷ left2) × PartsNumbered ms2 bs2 × (taken + 2 ≡ length (front_lines ms2 bs2) + 2)
took_end bytes ms ms2 bs bs2 left left2 text taken s b e is t =
    let k = subst (λ x. TookOk text ms bs x ms2 bs2) is (took_ok text ms bs s ms2 bs2 t) in
    let f : front_lines ms bs ≡ front_lines ms2 bs2 = ap₂ front_lines (sym k.1) (sym k.2) in (
      b.cut ∙ ap (λ ls. front_lines ms bs ++ ls) e ∙ ap₂ (λ ls l. ls ++ l ∷ left2) f k.0,
      subst (λ xs. PartsNumbered xs bs2) (sym k.1) (subst (PartsNumbered ms) (sym k.2) b.numbered),
      omega (arith, b.count, ap length f),
    )

pub ruleset laws = (taken_few, body_starts)
