-- The hints of a trail are written entry by entry.
use Rattle.std.proofs.Common.{◌≡◌, ℕ, zero, suc, Some, ◌+◌, ◌<◌, ◌≤◌, true, false, cond, List, [], ◌∷◌, ◌++◌, length, drop, get_or, refl, sym, ap, ◌∙◌, subst, arith, append_assoc}
use Rattle.std.specs.Prelude.{slice_get}
use Rattle.zi_sat.specs.Trail.{InAll, lits_of}
use Rattle.std.proofs.Math.Seq.{drop-cons}
use Rattle.std.proofs.lemmas.List.{drop_all, append-nil}
use Rattle.zi_formula.specs.declared.formula.Lit.{Lit}
use Rattle.zi_formula.specs.declared.formula.Constraint.{Constraint}
use Rattle.zi_proof.specs.Known.{Known, is_true, Outcome, Fails, Contradiction, Goes}
use Rattle.zi_proof.specs.Accepted.{cited, step_cited}
use Rattle.zi_proof.specs.Taken.{taken_as, known_after}
use Rattle.zi_proof.specs.declared.steps.Taken.{Taken}
use Rattle.zi_proof.specs.declared.steps.Taken.TheVariants as taken
use Rattle.zi_sat.specs.declared.entry.Entry.{Entry}
use Rattle.zi_sat.specs.declared.entry.Why.TheVariants.{Decision, Hint}
use Rattle.zi_walk.proofs.Replay.{replay, go_on, hint_then}
use Rattle.zi_solve.specs.Replays.{Replays}

-- what is known already
pub known_entry : (all : List Constraint) (k : Known) (e : Entry) (hs : List ℕ) → is_true k e.lit ≡ true → Replays all k e hs false hs k
known_entry all k e hs t = λ rest. ap (λ b. hs ++ cond b (replay all k rest) (hint_then e.why all k (λ f. replay all f rest))) (sym t)

pub decided_entry : (all : List Constraint) (k : Known) (l : Lit) (hs : List ℕ) → is_true k l ≡ false → Replays all k (record { lit = l; why = Decision }) hs true hs k
decided_entry all k l hs t = λ rest. ap (λ b. hs ++ cond b (replay all k rest) []) (sym t)

pub hinted_goes : (all : List Constraint) (k g : Known) (l : Lit) (h : ℕ) (hs gs : List ℕ) → is_true k l ≡ false → gs ≡ hs ++ h ∷ [] → taken.Goes ≡ taken_as (step_cited k (cited all h)) → g ≡ known_after k (step_cited k (cited all h)) → Replays all k (record { lit = l; why = Hint h }) hs false gs g
hinted_goes all k g l h hs gs t e o a = λ rest. at (step_cited k (cited all h)) refl o a rest
  where
    at : (x : Outcome) → step_cited k (cited all h) ≡ x → taken.Goes ≡ taken_as x → g ≡ known_after k x → (rest : List Entry) → gs ++ replay all g rest ≡ hs ++ cond (is_true k l) (replay all k rest) (h ∷ go_on (step_cited k (cited all h)) (λ f. replay all f rest))
    at Fails s o a rest = cc
    at Contradiction s o a rest = cc
    at (Goes f) s o a rest =
        ap (λ z. z ++ replay all g rest) e ∙ append_assoc hs (h ∷ []) (replay all g rest) ∙ ap (λ q. hs ++ h ∷ replay all q rest) a
        ∙ ap (λ x. hs ++ h ∷ go_on x (λ f. replay all f rest)) (sym s) ∙ ap (λ b. hs ++ cond b (replay all k rest) (h ∷ go_on (step_cited k (cited all h)) (λ f. replay all f rest))) (sym t)

pub hinted_ends : (all : List Constraint) (k g : Known) (l : Lit) (h : ℕ) (hs gs : List ℕ) (x : Taken) → (x ≡ taken.Goes → ⊥) → is_true k l ≡ false → gs ≡ hs ++ h ∷ [] → x ≡ taken_as (step_cited k (cited all h)) → Replays all k (record { lit = l; why = Hint h }) hs true gs g
hinted_ends all k g l h hs gs x not t e o = λ rest. at (step_cited k (cited all h)) refl o rest
  where
    ends : (y : Outcome) → step_cited k (cited all h) ≡ y → ((rest : List Entry) → go_on y (λ f. replay all f rest) ≡ []) → (rest : List Entry) → gs ++ [] ≡ hs ++ cond (is_true k l) (replay all k rest) (h ∷ go_on (step_cited k (cited all h)) (λ f. replay all f rest))
    ends y s q rest =
        append-nil gs ∙ e ∙ ap (λ z. hs ++ h ∷ z) (sym (q rest)) ∙ ap (λ x. hs ++ h ∷ go_on x (λ f. replay all f rest)) (sym s) ∙ ap (λ b. hs ++ cond b (replay all k rest) (h ∷ go_on (step_cited k (cited all h)) (λ f. replay all f rest))) (sym t)

    at : (y : Outcome) → step_cited k (cited all h) ≡ y → x ≡ taken_as y → (rest : List Entry) → gs ++ [] ≡ hs ++ cond (is_true k l) (replay all k rest) (h ∷ go_on (step_cited k (cited all h)) (λ f. replay all f rest))
    at Fails s o rest = ends Fails s (λ r. refl) rest
    at Contradiction s o rest = ends Contradiction s (λ r. refl) rest
    at (Goes f) s o rest = absurd (not o)

-- entry after entry
pub replay_next : (all : List Constraint) (k g : Known) (es : List Entry) (i : ℕ) (e : Entry) (hs gs whole : List ℕ) → hs ++ replay all k (drop i es) ≡ whole → i < length es → e ≡ get_or es i e → Replays all k e hs false gs g → gs ++ replay all g (drop (i + 1) es) ≡ whole
replay_next all k g es i e hs gs whole h l q r =
    let s : suc i ≡ i + 1 = omega arith in
    r (drop (i + 1) es) ∙ ap (λ xs. hs ++ replay all k xs) (sym (drop-cons es i e l ∙ ap (λ x. x ∷ drop (suc i) es) (sym q) ∙ ap (λ n. e ∷ drop n es) s)) ∙ h

pub replay_ends : (all : List Constraint) (k g : Known) (es : List Entry) (i : ℕ) (e : Entry) (hs gs whole : List ℕ) → hs ++ replay all k (drop i es) ≡ whole → i < length es → e ≡ get_or es i e → Replays all k e hs true gs g → gs ≡ whole
replay_ends all k g es i e hs gs whole h l q r =
    let s : suc i ≡ i + 1 = omega arith in
    sym (append-nil gs) ∙ r (drop (i + 1) es) ∙ ap (λ xs. hs ++ replay all k xs) (sym (drop-cons es i e l ∙ ap (λ x. x ∷ drop (suc i) es) (sym q) ∙ ap (λ n. e ∷ drop n es) s)) ∙ h

pub replay_done : (all : List Constraint) (k : Known) (es : List Entry) (i : ℕ) (hs whole : List ℕ) → hs ++ replay all k (drop i es) ≡ whole → length es ≤ i → hs ≡ whole
replay_done all k es i hs whole h l = sym (append-nil hs) ∙ ap (λ xs. hs ++ replay all k xs) (sym (drop_all i es l)) ∙ h

pub replay_starts : (all : List Constraint) (k : Known) (es : List Entry) → [] ++ replay all k (drop 0 es) ≡ replay all k es
replay_starts all k [] = refl
replay_starts all k (e ∷ es) = refl

-- an entry's variable is in range
pub within_at : (n : ℕ) (es : List Entry) (i : ℕ) (e : Entry) → InAll n (lits_of es) → slice_get es i ≡ Some e → e.lit.variable ≤ n
within_at n [] i e h q = cc
within_at n (x ∷ es) zero e h q =
    let s : x ≡ e = cc in
    subst (λ (y : Entry). y.lit.variable ≤ n) s h.1
within_at n (x ∷ es) (suc i) e h q = within_at n es i e h.2 q
