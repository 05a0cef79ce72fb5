-- The reports for the blocks of a certificate stand in the order of the places: so those of a place are those at the front.
use Rattle.std.proofs.Common.{◌≡◌, ◌≢◌, ℕ, zero, suc, ◌+◌, ◌<◌, ◌≤◌, ◌==◌, Bool, true, false, cond, List, [], ◌∷◌, ◌++◌, map, filter, flat_map, refl, sym, ap, ◌∙◌, subst, arith, append_assoc, eqb-true, ne_eqb, eq-or-lt_of_le, ◌⊎◌, inl, inr}
use Rattle.std.proofs.lemmas.Bool.{eqb-false}
use Rattle.zi_formula.specs.declared.formula.Lit.{Lit}
use Rattle.zi_formula.specs.declared.formula.Formula.{Formula}
use Rattle.zi_proof.specs.declared.proof.Lemma.{Lemma}
use Rattle.zi_proof.specs.declared.proof.Block.{Block}
use Rattle.zi_proof.specs.declared.proof.Certificate.{Certificate}
use Rattle.zi_universe.specs.declared.types.Requirement.{Requirement}
use Rattle.zi_universe.specs.declared.types.Candidate.{Candidate}
use Rattle.zi_universe.specs.declared.types.Interface.{Interface}
use Rattle.zi_choice.specs.Choice.{Choice}
use Rattle.zi_choice.specs.declared.traced.Place.{Place as APlace}
use Rattle.zi_choice.specs.declared.traced.Traced.{Traced}
use Rattle.zi_choice.specs.Traces.{as_place, as_walk}
use Rattle.zi_choice.specs.Walk.{Place, Walk, Walks}
use Rattle.zi_choice.specs.Vars.{Cand, candidates_of, var_number}
use Rattle.zi_choice.specs.Tables.{Each}
use Rattle.zi_build.specs.Clauses.{each, keep, formula}
use Rattle.zi_certificate.specs.Certificates.{Asked, is_passed, is_so, said_at, asked_one, asked_from, AreBlocks, Excludes}
use Rattle.zi_why.specs.declared.report.Report.{Report}
use Rattle.zi_why.specs.Reports.{IsReport, AreReports}
use Rattle.zi_report.specs.Text.{is_of, place_line, report_line, place_text, report_text}
use Rattle.zi_report.specs.Taking.{front, behind, part, text_from}
use Rattle.zi_report.specs.Reported.{IsReported}

-- none is below this, nor below one before it
abbrev Rises : ℕ → List ℕ → Type 0
Rises n [] = Unit {0}
Rises n (m ∷ ms) = (n ≤ m) × Rises m ms

rises_low : (n m : ℕ) (ms : List ℕ) → n ≤ m → Rises m ms → Rises n ms
rises_low n m [] le h = tt
rises_low n m (k ∷ ms) le h = (omega (arith, le, h.0), h.1)

-- What a certificate has to have.

abbrev asked_place : Asked → ℕ
asked_place a = a.place

module _ (u : List Interface) (n : ℕ) (before : List Lit) (p : Place) where
  kept_rises : (b : Bool) (a : Asked) (xs : List Asked) → n ≡ a.place → Rises n (map asked_place xs) → Rises n (map asked_place (keep b a ++ xs))
  kept_rises true a xs e h = (omega (arith, e), subst (λ m. Rises m (map asked_place xs)) e h)
  kept_rises false a xs e h = h

  each_rises : (c : ℕ) (ks : List Candidate) (ys : List Asked) → Rises n (map asked_place ys) → Rises n (map asked_place (each c (asked_one u n before p) ks ++ ys))
  each_rises c [] ys h = h
  each_rises c (k ∷ ks) ys h =
      subst (λ xs. Rises n (map asked_place xs)) (sym (append_assoc (asked_one u n before p c k) (each (suc c) (asked_one u n before p) ks) ys))
      (kept_rises (is_passed p.pick c) (record { place = n; candidate = var_number u (Cand p.interface c); assumed = before ++ is_so u p.interface c ∷ [] }) (each (suc c) (asked_one u n before p) ks ++ ys) refl
      (each_rises (suc c) ks ys h))

asked_rises : (u : List Interface) (n : ℕ) (before : List Lit) (ps : List Place) → Rises n (map asked_place (asked_from u n before ps))
asked_rises u n before [] = tt
asked_rises u n before (p ∷ ps) =
    let next : List Asked = asked_from u (suc n) (before ++ said_at u p.interface p.pick) ps in
    each_rises u n before p 0 (candidates_of u p.interface) next
    (rises_low n (suc n) (map asked_place next) (omega arith) (asked_rises u (suc n) (before ++ said_at u p.interface p.pick) ps))

-- What it has, and the reports for that.

abbrev report_place : Report → ℕ
report_place r = r.place

module _ (u : List Interface) (req : Requirement) (s : Choice) where
  reports_rise : (f : Formula) (ms : List Lemma) (n : ℕ) (as' : List Asked) (bs : List Block) (rs : List Report) → AreBlocks f ms as' bs → AreReports u req s bs rs → Rises n (map asked_place as') → Rises n (map report_place rs)
  reports_rise f ms n as' bs [] h g r = tt
  reports_rise f ms n as' [] (q ∷ rs) h g r = absurd g
  reports_rise f ms n [] (b ∷ bs) (q ∷ rs) h g r = absurd h
  reports_rise f ms n (a ∷ as') (b ∷ bs) (q ∷ rs) h g r =
      let e : a.place ≡ q.place = sym (g.0.place ∙ h.0) in
      (omega (arith, e, r.0), reports_rise f ms q.place as' bs rs h.3 g.1 (subst (λ m. Rises m (map asked_place as')) e r.1))

-- Those of a place.

abbrev InOrder : ℕ → List Report → Type 0
InOrder n rs = Rises n (map report_place rs)

of_it : (n : ℕ) (r : Report) → is_of n r ≡ true → r.place ≡ n
of_it n r e = eqb-true r.place n e

of_no : (n : ℕ) (r : Report) → n < r.place → is_of n r ≡ false
of_no n r lt = ne_eqb r.place n (λ e. omega (arith, lt, e))

of_later : (n : ℕ) (r : Report) → is_of n r ≡ false → n ≤ r.place → n < r.place
of_later n r e le = at (eq-or-lt_of_le le)
  where
    at : (n ≡ r.place) ⊎ (n < r.place) → n < r.place
    at (inl h) = absurd (eqb-false r.place n e (sym h))
    at (inr h) = h

-- a choice between two by a test, with what the test gave
by_test : (P : Bool → Type 0) (b : Bool) → (b ≡ true → P true) → (b ≡ false → P false) → P b
by_test P true t f = t refl
by_test P false t f = f refl

none_of : (n m : ℕ) (rs : List Report) → n < m → InOrder m rs → filter (is_of n) rs ≡ []
none_of n m [] lt h = refl
none_of n m (r ∷ rs) lt h =
    ap (λ b. cond b (r ∷ filter (is_of n) rs) (filter (is_of n) rs)) (of_no n r (omega (arith, lt, h.0))) ∙ none_of n r.place rs (omega (arith, lt, h.0)) h.1

front_are : (n : ℕ) (rs : List Report) → InOrder n rs → front n rs ≡ filter (is_of n) rs
front_are n [] h = refl
front_are n (r ∷ rs) h =
    by_test (λ b. cond b (r ∷ front n rs) [] ≡ cond b (r ∷ filter (is_of n) rs) (filter (is_of n) rs)) (is_of n r)
    (λ e. ap (λ xs. r ∷ xs) (front_are n rs (subst (λ m. InOrder m rs) (of_it n r e) h.1)))
    (λ e. sym (none_of n r.place rs (of_later n r e h.0) h.1))

behind_are : (n m : ℕ) (rs : List Report) → n < m → filter (is_of m) (behind n rs) ≡ filter (is_of m) rs
behind_are n m [] lt = refl
behind_are n m (r ∷ rs) lt =
    by_test (λ b. filter (is_of m) (cond b (behind n rs) (r ∷ rs)) ≡ filter (is_of m) (r ∷ rs)) (is_of n r)
    (λ e. behind_are n m rs lt ∙ ap (λ b. cond b (r ∷ filter (is_of m) rs) (filter (is_of m) rs)) (sym (ne_eqb r.place m (λ f. omega (arith, lt, f, of_it n r e)))))
    (λ e. refl)

behind_rises : (n : ℕ) (rs : List Report) → InOrder n rs → InOrder (suc n) (behind n rs)
behind_rises n [] h = tt
behind_rises n (r ∷ rs) h =
    by_test (λ b. InOrder (suc n) (cond b (behind n rs) (r ∷ rs))) (is_of n r)
    (λ e. behind_rises n rs (subst (λ m. InOrder m rs) (of_it n r e) h.1))
    (λ e. let lt : n < r.place = of_later n r e h.0 in (omega (arith, lt), h.1))

each_same : {A B : Type 0} (f g : ℕ → A → List B) (n : ℕ) (xs : List A) → ((m : ℕ) (x : A) → n ≤ m → f m x ≡ g m x) → each n f xs ≡ each n g xs
each_same f g n [] h = refl
each_same f g n (x ∷ xs) h = ap (λ l. l ++ each (suc n) f xs) (h n x (omega arith)) ∙ ap (λ l. g n x ++ l) (each_same f g (suc n) xs (λ m y le. h m y (omega (arith, le))))

-- so the text is that of each place with its reports
text_is : (u : List Interface) (n : ℕ) (ps : List Place) (rs : List Report) → InOrder n rs → text_from u n ps rs ≡ each n (place_text u rs) ps
text_is u n [] rs h = refl
text_is u n (p ∷ ps) rs h =
    ap (λ xs. part u p xs ++ text_from u (suc n) ps (behind n rs)) (front_are n rs h)
    ∙ ap (λ l. place_text u rs n p ++ l)
    (text_is u (suc n) ps (behind n rs) (behind_rises n rs h)
    ∙ each_same (place_text u (behind n rs)) (place_text u rs) (suc n) ps (λ m q le. ap (λ xs. part u q xs) (behind_are n m rs (omega (arith, le)))))

pub is_reported : (u : List Interface) (req : Requirement) (s : Choice) (c : Certificate) (w : Walk) (rs : List Report) (text : List ℕ) → Excludes u req s c → Walks u req s w → AreReports u req s c.blocks rs
    → text ≡ text_from u 1 w.places rs → IsReported u req s c text
is_reported u req s c w rs text h walks are e = record {
  walk = w;
  walks = walks;
  reports = rs;
  are = are;
  is = e ∙ text_is u 1 w.places rs
      (reports_rise u req s (formula u req) c.proof.lemmas 1 (asked_from u 1 [] h.walk.places) c.blocks rs h.blocks are (asked_rises u 1 [] h.walk.places));
}

-- of values
pub reported_by : (u : List Interface) (req : Requirement) (s : Choice) (c : Certificate) (t : Traced) (rs : List Report) (ps : List APlace) (qs : List Report) (text : List ℕ) → Excludes u req s c → Walks u req s (as_walk t)
    → AreReports u req s c.blocks rs → ps ≡ t.places → qs ≡ rs → text ≡ text_from u 1 (map as_place ps) qs → IsReported u req s c text
reported_by u req s c t rs ps qs text h walks are ep eq e =
    is_reported u req s c (as_walk t) rs text h walks are (e ∙ ap (λ (xs : List APlace). text_from u 1 (map as_place xs) qs) ep ∙ ap (λ xs. text_from u 1 (map as_place t.places) xs) eq)
