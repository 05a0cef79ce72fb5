-- Texts that are cut at a separator.
use Rattle.std.proofs.Common.{◌≡◌, ◌≢◌, ℕ, ◌+◌, ◌<◌, ◌≤◌, true, false, eqb, List, [], ◌∷◌, ◌++◌, length, get_or, take, drop, refl, sym, ap, ◌∙◌, subst, arith, append_assoc}
use Rattle.std.proofs.lemmas.List.{take_more, drop_more, take_all, drop_all, append-nil}
use Rattle.std.proofs.lemmas.Bool.Decides.{nat_tests}
use Rattle.zi_text.specs.Pieces.{pieces}
use Rattle.zi_proof.specs.ProofText.{all_pieces}

pub test_same : (c : ℕ) → eqb c c ≡ true
test_same c = grind (arith, nat_tests)

test_other : (x c : ℕ) → x ≢ c → eqb x c ≡ false
test_other x c h = grind (arith, nat_tests)

pub pieces_same : (c : ℕ) (t : List ℕ) → pieces c (c ∷ t) ≡ ([], all_pieces c t)
pieces_same c t = rw (test_same c) refl

pub pieces_other : (x c : ℕ) (t : List ℕ) → x ≢ c → pieces c (x ∷ t) ≡ (x ∷ (pieces c t).0, (pieces c t).1)
pieces_other x c t h = rw (test_other x c h) refl

-- the pieces of a text of which a front was read that has no separator
abbrev pub Reading : ℕ → List ℕ → List ℕ → List ℕ → Type 0
Reading c t front rest = all_pieces c t ≡ (front ++ (pieces c rest).0) ∷ (pieces c rest).1

reading_more : (c x : ℕ) (t front rest : List ℕ) → x ≢ c → Reading c t front (x ∷ rest) → Reading c t (front ++ x ∷ []) rest
reading_more c x t front rest h r =
    r ∙ ap (λ p. (front ++ p.0) ∷ p.1) (pieces_other x c rest h) ∙ ap (λ w. w ∷ (pieces c rest).1) (sym (append_assoc front (x ∷ []) (pieces c rest).0))

pub reading_step : (c i : ℕ) (t : List ℕ) → i < length t → get_or t i 0 ≢ c → Reading c t (take i t) (drop i t) → Reading c t (take (i + 1) t) (drop (i + 1) t)
reading_step c i t lt h r =
    subst (λ f. Reading c t f (drop (i + 1) t)) (sym (take_more t i 0 lt)) (reading_more c (get_or t i 0) t (take i t) (drop (i + 1) t) h (subst (Reading c t (take i t)) (drop_more t i 0 lt) r))

reading_here : (c : ℕ) (t front rest : List ℕ) → Reading c t front (c ∷ rest) → all_pieces c t ≡ front ∷ all_pieces c rest
reading_here c t front rest r = r ∙ ap (λ p. (front ++ p.0) ∷ p.1) (pieces_same c rest) ∙ ap (λ w. w ∷ all_pieces c rest) (append-nil front)

pub drop_two : (i : ℕ) (t : List ℕ) → i < length t → drop 1 (drop i t) ≡ drop (i + 1) t
drop_two i t lt = ap (drop 1) (drop_more t i 0 lt)

pub pieces_at : (c i : ℕ) (t : List ℕ) → i < length t → get_or t i 0 ≡ c → Reading c t (take i t) (drop i t) → all_pieces c t ≡ take i t ∷ all_pieces c (drop 1 (drop i t))
pieces_at c i t lt e r =
    reading_here c t (take i t) (drop (i + 1) t) (subst (Reading c t (take i t)) (drop_more t i 0 lt ∙ ap (λ x. x ∷ drop (i + 1) t) e) r) ∙ ap (λ u. take i t ∷ all_pieces c u) (sym (drop_two i t lt))

pub pieces_whole : (c i : ℕ) (t : List ℕ) → length t ≤ i → Reading c t (take i t) (drop i t) → all_pieces c t ≡ t ∷ []
pieces_whole c i t le r =
    subst (λ u. Reading c t u []) (take_all i t le) (subst (Reading c t (take i t)) (drop_all i t le) r) ∙ ap (λ w. w ∷ []) (append-nil t)
