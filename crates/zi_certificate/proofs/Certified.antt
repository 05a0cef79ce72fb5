-- A certificate shows the best choice, and a refutation that none is valid.
use Rattle.std.proofs.Common.{◌≡◌, ◌≢◌, ℕ, zero, suc, ◌+◌, Bool, true, false, not, ◌&&◌, List, [], ◌∷◌, ◌++◌, map, refl, sym, ap, ◌∙◌, subst, arith, Option, Some, None, inl, inr}
use Rattle.std.specs.Prelude.{slice_get}
use Rattle.std.proofs.lemmas.Bool.{false≢true, false_from_ne_true, and_parts}
use Rattle.std.proofs.lemmas.Bool.Decides.{nat_tests}
use Rattle.std.proofs.lemmas.Option.{same_Some}
use Rattle.zi_formula.specs.declared.formula.Lit.{Lit}
use Rattle.zi_formula.specs.declared.formula.Formula.{Formula}
use Rattle.zi_formula.specs.Truth.{lit_true, clause_true, all_true, Models}
use Rattle.zi_formula.specs.Form.{has_all}
use Rattle.zi_proof.specs.declared.proof.Lemma.{Lemma}
use Rattle.zi_proof.specs.declared.proof.Proof.{Proof}
use Rattle.zi_proof.specs.declared.proof.Block.{Block}
use Rattle.zi_proof.specs.Accepted.{follows, accepted, proves, lemma_clause}
use Rattle.zi_proof.specs.Laws.{MakesTrue}
use Rattle.zi_proof.proofs.Sound.{lemmas_are_true, blocks_exclude}
use Rattle.zi_universe.specs.declared.types.Requirement.{Requirement}
use Rattle.zi_universe.specs.declared.types.Candidate.{Candidate}
use Rattle.zi_universe.specs.declared.types.Interface.{Interface}
use Rattle.zi_choice.specs.Choice.{Choice, pick, candidate_at}
use Rattle.zi_choice.specs.Walk.{Place, Walk}
use Rattle.zi_choice.specs.Valid.{IsValid}
use Rattle.zi_choice.specs.Best.{IsBetter, RanksEarlier}
use Rattle.zi_choice.proofs.WalkLaws.{walk_one}
use Rattle.zi_choice.proofs.ApartLaws.{one_earlier}
use Rattle.zi_choice.specs.Vars.{Cand, candidates_of, var_number}
use Rattle.zi_build.specs.Clauses.{each, keep, formula}
use Rattle.zi_build.specs.Laws.{IsCandidatePart}
use Rattle.zi_choice.proofs.Base.{candidate_is}
use Rattle.zi_build.proofs.Meaning.{IsAt}
use Rattle.zi_choice.proofs.WalkFacts.{faithful}
use Rattle.zi_build.proofs.Central.{valid_is_model, none_is_no_model}
use Rattle.zi_certificate.specs.Certificates.{Asked, is_passed, is_so, is_not, said_at, asked_one, asked_from, AreBlocks, Refutes}
use Rattle.zi_certificate.specs.Laws.{CertifiedIsBest, RefutedIsNone}
use Rattle.zi_feed.specs.IdLaws.{none_some}
use Rattle.zi_text.proofs.ListLaws.{at_front, some_is, some_of}

-- every block that is asked for is accepted by some hints
abbrev IsAccepted : Formula → List Lemma → Asked → Type 0
IsAccepted f ms a = (hints : List ℕ) × (accepted f ms a.assumed hints ≡ true)

abbrev AllAccepted : Formula → List Lemma → List Asked → Type 0
AllAccepted f ms [] = Unit {0}
AllAccepted f ms (a ∷ xs) = IsAccepted f ms a × AllAccepted f ms xs

blocks_accepted : (f : Formula) (ms : List Lemma) (xs : List Asked) (bs : List Block) → AreBlocks f ms xs bs → AllAccepted f ms xs
blocks_accepted f ms [] [] h = tt
blocks_accepted f ms [] (b ∷ bs) h = absurd h
blocks_accepted f ms (a ∷ xs) [] h = absurd h
blocks_accepted f ms (a ∷ xs) (b ∷ bs) h = ((b.hints, h.2), blocks_accepted f ms xs bs h.3)

accepted_left : (f : Formula) (ms : List Lemma) (xs ys : List Asked) → AllAccepted f ms (xs ++ ys) → AllAccepted f ms xs
accepted_left f ms [] ys h = tt
accepted_left f ms (x ∷ xs) ys h = (h.0, accepted_left f ms xs ys h.1)

accepted_right : (f : Formula) (ms : List Lemma) (xs ys : List Asked) → AllAccepted f ms (xs ++ ys) → AllAccepted f ms ys
accepted_right f ms [] ys h = h
accepted_right f ms (x ∷ xs) ys h = accepted_right f ms xs ys h.1

accepted_at : {A : Type 0} (f : Formula) (ms : List Lemma) (n : ℕ) (g : ℕ → A → List Asked) (xs : List A) (c : ℕ) (x : A) → slice_get xs c ≡ Some x → AllAccepted f ms (each n g xs) → AllAccepted f ms (g (n + c) x)
accepted_at f ms n g [] c x e h = absurd (none_some e)
accepted_at f ms n g (y ∷ ys) zero x e h =
    let z : n ≡ n + 0 = omega arith in
    subst (λ m. AllAccepted f ms (g m x)) z (subst (λ a. AllAccepted f ms (g n a)) (same_Some _ _ e) (accepted_left f ms (g n y) (each (suc n) g ys) h))
accepted_at f ms n g (y ∷ ys) (suc c) x e h =
    let z : suc n + c ≡ n + suc c = omega arith in
    subst (λ m. AllAccepted f ms (g m x)) z (accepted_at f ms (suc n) g ys c x e (accepted_right f ms (g n y) (each (suc n) g ys) h))

kept_one : (f : Formula) (ms : List Lemma) (b : Bool) (a : Asked) → b ≡ true → AllAccepted f ms (keep b a) → IsAccepted f ms a
kept_one f ms true a e h = h.0
kept_one f ms false a e h = absurd (false≢true e)

-- what is taken as true is so
pub makes_both : (v : ℕ → Bool) (xs ys : List Lit) → MakesTrue v xs → MakesTrue v ys → MakesTrue v (xs ++ ys)
makes_both v [] ys h g = g
makes_both v (x ∷ xs) ys h g = (h.0, makes_both v xs ys h.1 g)

makes_each : {A : Type 0} (v : ℕ → Bool) (n : ℕ) (g : ℕ → A → List Lit) (xs : List A) → ((c : ℕ) (x : A) → slice_get xs c ≡ Some x → MakesTrue v (g (n + c) x)) → MakesTrue v (each n g xs)
makes_each v n g [] h = tt
makes_each v n g (x ∷ xs) h =
    makes_both v (g n x) (each (suc n) g xs) (let z : n + 0 ≡ n = omega arith in subst (λ m. MakesTrue v (g m x)) z (h 0 x refl))
    (makes_each v (suc n) g xs (λ c y e. let z : n + suc c ≡ suc n + c = omega arith in subst (λ m. MakesTrue v (g m y)) z (h (suc c) y e)))

passed_better : (e : ℕ) (q : Option ℕ) → IsBetter (Some e) q → is_passed q e ≡ true
passed_better e None b = refl
passed_better e (Some c) b = grind (arith, nat_tests)

module _ (u : List Interface) (req : Requirement) (ms : List Lemma) (log : follows (formula u req) ms ≡ true) (t : Choice) (v : ℕ → Bool) (part : IsCandidatePart u v t) (model : Models v (formula u req)) where
  so_true : (i c : ℕ) → pick t i ≡ Some c → lit_true v (is_so u i c) ≡ true
  so_true i c e = part.are_true i c e

  none_false : (i c : ℕ) (k : Candidate) → pick t i ≡ None → IsAt u i c k → MakesTrue v (is_not u i c k)
  none_false i c k e at =
      let f : v (var_number u (Cand i c)) ≡ false = false_from_ne_true (v (var_number u (Cand i c))) (λ y. none_some (sym e ∙ part.are_chosen i c (some_is (candidate_at u i c) k (candidate_is u i c ∙ at)) y)) in
      (ap not f, tt)

  pub said_true : (i : ℕ) (p : Option ℕ) → pick t i ≡ p → MakesTrue v (said_at u i p)
  said_true i (Some c) e = (so_true i c e, tt)
  said_true i None e = makes_each v 0 (is_not u i) (candidates_of u i) (λ c k at. (let z : c ≡ 0 + c = omega arith in subst (λ m. MakesTrue v (is_not u i m k)) z (none_false i c k e at)))

  no_better : (n : ℕ) (before : List Lit) (common : List Place) (i e : ℕ) (q : Option ℕ) (other : List Place) → AllAccepted (formula u req) ms (asked_from u n before (common ++ record { interface = i; pick = q } ∷ other)) → MakesTrue v before → ((m : ℕ) (p : Place) → slice_get common m ≡ Some p → pick t p.interface ≡ p.pick) → pick t i ≡ Some e → IsBetter (Some e) q → ⊥
  no_better n before [] i e q other h g like p b =
      let here : Place = record { interface = i; pick = q } in
      let k = some_of (candidate_at u i e) (part.fits.there i e p) in
      let z : 0 + e ≡ e = omega arith in
      let all_here = accepted_left (formula u req) ms (each 0 (asked_one u n before here) (candidates_of u i)) (asked_from u (suc n) (before ++ said_at u i q) other) h in
      let one = subst (λ m. AllAccepted (formula u req) ms (asked_one u n before here m k.0)) z (accepted_at (formula u req) ms 0 (asked_one u n before here) (candidates_of u i) e k.0 (sym (candidate_is u i e) ∙ k.1) all_here) in
      let a = kept_one (formula u req) ms (is_passed q e) (record { place = n; candidate = var_number u (Cand i e); assumed = before ++ is_so u i e ∷ [] }) (passed_better e q b) one in
      blocks_exclude (formula u req) ms (before ++ is_so u i e ∷ []) a.0 v log a.1 model (makes_both v before (is_so u i e ∷ []) g (so_true i e p, tt))
  no_better n before (c ∷ cs) i e q other h g like p b =
      no_better (suc n) (before ++ said_at u c.interface c.pick) cs i e q other
      (accepted_right (formula u req) ms (each 0 (asked_one u n before c) (candidates_of u c.interface)) (asked_from u (suc n) (before ++ said_at u c.interface c.pick) (cs ++ record { interface = i; pick = q } ∷ other)) h)
      (makes_both v before (said_at u c.interface c.pick) g (said_true c.interface c.pick (like 0 c refl)))
      (λ m x y. like (suc m) x y) p b

mid_get : {A : Type 0} (xs : List A) (y : A) (ys : List A) → (n : ℕ) × (slice_get (xs ++ y ∷ ys) n ≡ Some y)
mid_get [] y ys = (0, refl)
mid_get (x ∷ xs) y ys = let r = mid_get xs y ys in (suc r.0, r.1)

pub certified_is_best : CertifiedIsBest
certified_is_best u req s c valid h = record {
  valid = valid;
  earlier = λ t v apart. elim (one_earlier u req s t valid v (λ e. apart (sym e))) [ inl g ↦ g | inr g ↦ absurd (at t v g g.before.here g.before.there refl refl) ];
}
  where
    at : (t : Choice) → IsValid u req t → (g : RanksEarlier u req t s) (p q : Option ℕ) → g.before.here ≡ p → g.before.there ≡ q → ⊥
    at t v g None q e f = subst (λ o. IsBetter o g.before.there) e g.before.better
    at t v g (Some d) q e f =
        let m = ((valid_is_model u req t).0 v).0 in
        let i : ℕ = g.before.interface in
        let mine : h.walk ≡ g.other = walk_one u req s h.walk g.other h.walks g.other_walks in
        let is_s : h.walk.places ≡ g.before.common ++ record { interface = g.before.interface; pick = g.before.there } ∷ g.before.other_rest = ap (λ (w : Walk). w.places) mine ∙ g.before.other_is in
        let there : (n : ℕ) (p : Place) → slice_get g.walk.places n ≡ Some p → pick t p.interface ≡ p.pick = λ n p y. faithful u req t g.walk g.walks p.interface p.pick n y in
        let mid = mid_get g.before.common (record { interface = g.before.interface; pick = g.before.here }) g.before.rest in
        no_better u req c.proof.lemmas h.follow t m.0 m.1 m.2 1 [] g.before.common g.before.interface d g.before.there g.before.other_rest
        (subst (λ ps. AllAccepted (formula u req) c.proof.lemmas (asked_from u 1 [] ps)) is_s (blocks_accepted (formula u req) c.proof.lemmas (asked_from u 1 [] h.walk.places) c.blocks h.blocks))
        tt
        (λ n p y. there n p (ap (λ ps. slice_get ps n) g.before.is ∙ at_front g.before.common (record { interface = g.before.interface; pick = g.before.here } ∷ g.before.rest) n p y))
        (there mid.0 (record { interface = g.before.interface; pick = g.before.here }) (ap (λ ps. slice_get ps mid.0) g.before.is ∙ mid.1) ∙ e)
        (subst (λ o. IsBetter o g.before.there) e g.before.better)

-- a refutation
none_left : (v : ℕ → Bool) (ls : List Lit) → has_all [] ls ≡ true → clause_true v ls ≡ true → ⊥
none_left v [] h t = false≢true t
none_left v (l ∷ ls) h t = false≢true h

last_false : (v : ℕ → Bool) (ms : List Lemma) → proves [] ms ≡ true → all_true v (map lemma_clause ms) ≡ true → ⊥
last_false v [] h t = false≢true h
last_false v (m ∷ []) h t = none_left v m.lits (and_parts (has_all m.lits []) (has_all [] m.lits) h).1 (and_parts (clause_true v m.lits) true t).0
last_false v (m ∷ n ∷ ms) h t = last_false v (n ∷ ms) h (and_parts (clause_true v m.lits) (all_true v (map lemma_clause (n ∷ ms))) t).1

pub refuted_is_none : RefutedIsNone
refuted_is_none u req p h =
    (none_is_no_model u req).1 (λ v m. last_false v p.lemmas h.1 (lemmas_are_true (formula u req) p.lemmas v h.0 m))

-- what the checker of proofs says, over the formula
pub refutes_when : (u : List Interface) (req : Requirement) (p : Proof) (f : Formula) (b : Bool) → f ≡ formula u req → b ≡ (follows f p.lemmas && proves [] p.lemmas) → (b ≡ true → Refutes u req p) × (Refutes u req p → b ≡ true)
refutes_when u req p f b e h = (
  λ t. let s = and_parts (follows f p.lemmas) (proves [] p.lemmas) (sym h ∙ t) in (subst (λ g. follows g p.lemmas ≡ true) e s.0, s.1),
  λ r. h ∙ ap (λ g. follows g p.lemmas && proves [] p.lemmas) e ∙ ap (λ x. x && proves [] p.lemmas) r.0 ∙ r.1,
)
