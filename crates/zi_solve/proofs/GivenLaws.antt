-- Each block that a certificate has to have is there: the trail walked again.
use Rattle.std.proofs.Common.{◌≡◌, ℕ, suc, ◌+◌, ◌<◌, ◌≤◌, Bool, true, false, not, eqb, cond, ◌&&◌, List, [], ◌∷◌, ◌++◌, length, append_assoc, refl, sym, ap, ◌∙◌, subst, arith, Option, Some, None, ◌⊎◌, inl, inr, eqb-true}
use Rattle.std.specs.Prelude.{slice_get, nat_le, nat_lt}
use Rattle.std.proofs.lemmas.Bool.{false≢true, false_from_ne_true}
use Rattle.std.proofs.lemmas.Bool.Decides.{nat_tests}
use Rattle.std.proofs.lemmas.Option.{slice_get_within}
use Rattle.zi_formula.specs.declared.formula.Lit.{Lit}
use Rattle.zi_formula.specs.declared.formula.Formula.{Formula}
use Rattle.zi_formula.specs.Truth.{lit_true}
use Rattle.zi_proof.specs.declared.proof.Lemma.{Lemma}
use Rattle.zi_proof.specs.Known.{nothing, says}
use Rattle.zi_proof.specs.Accepted.{citable, accepted, assume, walk_from, lits_within}
use Rattle.zi_proof.specs.Laws.{MakesTrue}
use Rattle.zi_sat.specs.declared.entry.Entry.{Entry}
use Rattle.zi_sat.specs.Trail.{lits_of, learn, known_from, OpenAll}
use Rattle.zi_sat.specs.Moves.{Lawful}
use Rattle.zi_sat.specs.Entries.{HaveReasons}
use Rattle.zi_sat.specs.Ends.{values_of, AreDecided}
use Rattle.zi_sat.proofs.EntryLaws.{lawful_reasons}
use Rattle.zi_universe.specs.declared.types.Requirement.{Requirement}
use Rattle.zi_universe.specs.declared.types.Candidate.{Candidate}
use Rattle.zi_universe.specs.declared.types.Interface.{Interface}
use Rattle.zi_choice.specs.Choice.{Choice, pick}
use Rattle.zi_choice.specs.Walk.{Place, Walk, Walks}
use Rattle.zi_choice.specs.Vars.{Var, Cand, candidates_of, var_number, var_count}
use Rattle.zi_build.specs.Clauses.{each, keep, no, lit_of, formula}
use Rattle.zi_choice.proofs.ThereLaws.{In}
use Rattle.zi_choice.proofs.WalkFacts.{faithful, push_case}
use Rattle.zi_build.proofs.Meaning.{IsAt}
use Rattle.zi_build.proofs.Numbers.{one_number, number_low, number_high}
use Rattle.zi_walk.specs.Rule.{walk_picks}
use Rattle.zi_walk.proofs.Passed.{IsOf, the_place}
use Rattle.zi_walk.proofs.Ways.{IsPassed}
use Rattle.zi_walk.proofs.Replay.{replay, replay_walks}
use Rattle.zi_walk.proofs.Stops.{walk_once, assume_is, assumed_true, stops}
use Rattle.zi_walk.proofs.Found.{values_agree, of_r, r_walks, r as r_of}
use Rattle.zi_certificate.specs.Certificates.{Asked, is_passed, is_so, is_not, said_at, asked_one, asked_from}
use Rattle.zi_solve.specs.Laws.{AreGiven, BlocksAreThere}
use Rattle.zi_sat.proofs.ReachLaws.{some_of}
use Rattle.zi_feed.specs.IdLaws.{none_some}
use Rattle.zi_text.proofs.ListLaws.{at_front}

-- lists
in_left : {A : Type 0} (y : A) (xs ys : List A) → In y xs → In y (xs ++ ys)
in_left y [] ys h = absurd h
in_left y (x ∷ xs) ys (inl e) = inl e
in_left y (x ∷ xs) ys (inr h) = inr (in_left y xs ys h)

in_right : {A : Type 0} (y : A) (xs ys : List A) → In y ys → In y (xs ++ ys)
in_right y [] ys h = h
in_right y (x ∷ xs) ys h = inr (in_right y xs ys h)

in_split : {A : Type 0} (y : A) (xs ys : List A) → In y (xs ++ ys) → In y xs ⊎ In y ys
in_split y [] ys h = inr h
in_split y (x ∷ xs) ys (inl e) = inl (inl e)
in_split y (x ∷ xs) ys (inr h) = elim (in_split y xs ys h) [ inl a ↦ inl (inr a) | inr b ↦ inr b ]

mid_get : {A : Type 0} (xs : List A) (y : A) (ys : List A) → slice_get (xs ++ y ∷ ys) (length xs) ≡ Some y
mid_get [] y ys = refl
mid_get (x ∷ xs) y ys = mid_get xs y ys

in_nots : (u : List Interface) (j n : ℕ) (ks : List Candidate) (l : Lit) → In l (each n (is_not u j) ks) → (c : ℕ) × (k : Candidate) × (slice_get ks c ≡ Some k) × (lit_of u (no (Cand j (n + c))) ≡ l)
in_nots u j n [] l h = absurd h
in_nots u j n (k ∷ ks) l (inl e) = let z : n + 0 ≡ n = omega arith in (0, k, refl, ap (λ m. lit_of u (no (Cand j m))) z ∙ e)
in_nots u j n (k ∷ ks) l (inr h) =
    let r = in_nots u j (suc n) ks l h in
    let c = r.0 in
    let z : n + suc c ≡ suc n + c = omega arith in (suc c, r.1, r.2, ap (λ m. lit_of u (no (Cand j m))) z ∙ r.3)

given_app : (f : Formula) (ms : List Lemma) (es : List Entry) (xs ys : List Asked) → AreGiven f ms es xs → AreGiven f ms es ys → AreGiven f ms es (xs ++ ys)
given_app f ms es [] ys h g = g
given_app f ms es (x ∷ xs) ys h g = (h.0, given_app f ms es xs ys h.1 g)

given_each : (f : Formula) (ms : List Lemma) (es : List Entry) (n : ℕ) (g : ℕ → Candidate → List Asked) (ks : List Candidate) → ((c : ℕ) (k : Candidate) → slice_get ks c ≡ Some k → AreGiven f ms es (g (n + c) k)) → AreGiven f ms es (each n g ks)
given_each f ms es n g [] h = tt
given_each f ms es n g (k ∷ ks) h =
    given_app f ms es (g n k) (each (suc n) g ks) (let z : n + 0 ≡ n = omega arith in subst (λ m. AreGiven f ms es (g m k)) z (h 0 k refl))
    (given_each f ms es (suc n) g ks (λ c x e. let z : n + suc c ≡ suc n + c = omega arith in subst (λ m. AreGiven f ms es (g m x)) z (h (suc c) x e)))

given_keep : (f : Formula) (ms : List Lemma) (es : List Entry) (b : Bool) (a : Asked) → (b ≡ true → AreGiven f ms es (a ∷ [])) → AreGiven f ms es (keep b a)
given_keep f ms es true a h = h refl
given_keep f ms es false a h = tt

-- what holds of each literal
makes_in : (a : ℕ → Bool) (ls : List Lit) → ((l : Lit) → In l ls → lit_true a l ≡ true) → MakesTrue a ls
makes_in a [] h = tt
makes_in a (l ∷ ls) h = (h l (inl refl), makes_in a ls (λ m i. h m (inr i)))

within_in : (n : ℕ) (ls : List Lit) → ((l : Lit) → In l ls → (1 ≤ l.variable) × (l.variable ≤ n)) → lits_within n ls ≡ true
within_in n [] h = refl
within_in n (l ∷ ls) h =
    let r = h l (inl refl) in
    let a = r.0 in
    let b = r.1 in
    let p : nat_le 1 l.variable ≡ true = grind (arith, nat_tests) in
    let q : nat_le l.variable n ≡ true = grind (arith, nat_tests) in
    ap (λ x. x && (nat_le l.variable n && lits_within n ls)) p ∙ ap (λ x. x && lits_within n ls) q ∙ within_in n ls (λ m i. h m (inr i))

passed_is : (q : Option ℕ) (e : ℕ) → is_passed q e ≡ true → IsPassed q e
passed_is None e h = tt
passed_is (Some c) e h = let z : e < c = grind (arith, nat_tests) in z

never_itself : (e : ℕ) → nat_lt e e ≡ true → ⊥
never_itself e h = let z : e < e = grind (arith, nat_tests) in omega (arith, z)

module _ (u : List Interface) (req : Requirement) (ms : List Lemma) (es : List Entry) (lawful : Lawful (citable (formula u req).constraints ms) (formula u req).constraints (walk_picks u req (var_count u)) es) (fresh : OpenAll nothing (lits_of es)) (full : AreDecided (var_count u) es) (r : Choice) (of : IsOf u (values_of es) r) (w : Walk) (walks : Walks u req r w) where
  abbrev x : ℕ → Bool
  x y = values_of es y

  pick_at : (m j : ℕ) (p : Option ℕ) → slice_get w.places m ≡ Some (the_place j p) → pick r j ≡ p
  pick_at m j p e = faithful u req r w walks j p m e

  -- what the places before say
  abbrev SaidOf : List Place → Lit → Type 0
  SaidOf pre l = (m : ℕ) × (p : Place) × (slice_get pre m ≡ Some p) × In l (said_at u p.interface p.pick)

  abbrev Carries : List Place → List Lit → Type 0
  Carries pre before = ((l : Lit) → In l before → SaidOf pre l) × ((m : ℕ) (p : Place) (l : Lit) → slice_get pre m ≡ Some p → In l (said_at u p.interface p.pick) → In l before)

  module _ (pre : List Place) (i : ℕ) (q : Option ℕ) (other : List Place) (is_w : w.places ≡ pre ++ the_place i q ∷ other) (e : ℕ) (item : Candidate) (at_e : IsAt u i e item) (passed : is_passed q e ≡ true) (before : List Lit) (carries : Carries pre before) where
    abbrev ne : ℕ
    ne = var_number u (Cand i e)

    abbrev assumed : List Lit
    assumed = before ++ is_so u i e ∷ []

    -- the trail's values, but for this candidate
    abbrev but : ℕ → Bool
    but y = cond (eqb y ne) true (x y)

    but_true : (y : ℕ) → x y ≡ true → but y ≡ true
    but_true y t = at (eqb y ne)
      where
        at : (b : Bool) → cond b true (x y) ≡ true
        at true = refl
        at false = t

    but_here : but ne ≡ true
    but_here = at (eqb ne ne) (let z : eqb ne ne ≡ true = grind (arith, nat_tests) in z)
      where
        at : (b : Bool) → b ≡ true → cond b true (x ne) ≡ true
        at true f = refl
        at false f = absurd (false≢true f)

    but_false : (y : ℕ) → (y ≡ ne → ⊥) → x y ≡ false → but y ≡ false
    but_false y d t = at (eqb y ne) refl
      where
        at : (b : Bool) → eqb y ne ≡ b → cond b true (x y) ≡ false
        at true f = absurd (d (eqb-true y ne f))
        at false f = t

    place_at : slice_get w.places (length pre) ≡ Some (the_place i q)
    place_at = ap (λ ps. slice_get ps (length pre)) is_w ∙ mid_get pre (the_place i q) other

    earlier_at : (m : ℕ) (p : Place) → slice_get pre m ≡ Some p → slice_get w.places m ≡ Some p
    earlier_at m p f = ap (λ ps. slice_get ps m) is_w ∙ at_front pre (the_place i q ∷ other) m p f

    second : {a c b d : ℕ} → ◌≡◌ {A = Var} (Cand a b) (Cand c d) → a ≡ c
    second f = cc

    -- a literal that a place before says: of a candidate that is there, and true
    said_by : (m j : ℕ) (p : Option ℕ) (l : Lit) → slice_get pre m ≡ Some (the_place j p) → In l (said_at u j p) → ((1 ≤ l.variable) × (l.variable ≤ var_count u)) × (lit_true but l ≡ true)
    said_by m j (Some c) l f (inl h) =
        let t = of.sound j c (pick_at m j (Some c) (earlier_at m (the_place j (Some c)) f)) in
        subst (λ y. ((1 ≤ y.variable) × (y.variable ≤ var_count u)) × (lit_true but y ≡ true)) h ((number_low u (Cand j c), number_high u (Cand j c) (t.0, t.1)), but_true (var_number u (Cand j c)) t.2)
    said_by m j (Some c) l f (inr h) = absurd h
    said_by m j None l f h =
        let n = in_nots u j 0 (candidates_of u j) l h in
        let z : 0 + n.0 ≡ n.0 = plain n.0 in
        let lit : lit_of u (no (Cand j n.0)) ≡ l = ap (λ d. lit_of u (no (Cand j d))) (sym z) ∙ n.3 in
        let off : x (var_number u (Cand j n.0)) ≡ false = false_from_ne_true (x (var_number u (Cand j n.0))) (λ t. none_some (sym (pick_at m j None (earlier_at m (the_place j None) f)) ∙ of.full j n.0 n.1 n.2 t)) in
        let apart : var_number u (Cand j n.0) ≡ ne → ⊥ = λ y.
        let same : j ≡ i = second (one_number u (Cand j n.0) (Cand i e) (n.1, n.2) (item, at_e) y) in
        let place : m ≡ length pre = walk_once u req r w walks m (length pre) (the_place j None) (the_place i q) (earlier_at m (the_place j None) f) place_at same in
        not_same m (length pre) place (slice_get_within pre m (the_place j None) f) in
        subst (λ y. ((1 ≤ y.variable) × (y.variable ≤ var_count u)) × (lit_true but y ≡ true)) lit
        ((number_low u (Cand j n.0), number_high u (Cand j n.0) (n.1, n.2)), ap not (but_false (var_number u (Cand j n.0)) apart off))
      where
        plain : (k : ℕ) → 0 + k ≡ k
        plain k = omega arith

        not_same : (a b : ℕ) → a ≡ b → a < b → ⊥
        not_same a b f l = omega (arith, f, l)

    assumed_is : (l : Lit) → In l assumed → ((1 ≤ l.variable) × (l.variable ≤ var_count u)) × (lit_true but l ≡ true)
    assumed_is l h = at (in_split l before (is_so u i e ∷ []) h)
      where
        at : In l before ⊎ In l (is_so u i e ∷ []) → ((1 ≤ l.variable) × (l.variable ≤ var_count u)) × (lit_true but l ≡ true)
        at (inl g) = let s = carries.0 l g in said_by s.0 s.1.interface s.1.pick l s.2 s.3
        at (inr (inl g)) = subst (λ y. ((1 ≤ y.variable) × (y.variable ≤ var_count u)) × (lit_true but y ≡ true)) g ((number_low u (Cand i e), number_high u (Cand i e) (item, at_e)), but_here)
        at (inr (inr g)) = absurd g

    makes : MakesTrue but assumed
    makes = makes_in but assumed (λ l h. (assumed_is l h).1)

    -- the candidate is false in the end
    false_end : known_from es ne ≡ Some false
    false_end = at (some_of (known_from es ne) (full ne (number_low u (Cand i e)) (number_high u (Cand i e) (item, at_e))))
      where
        not_chosen : x ne ≡ true → ⊥
        not_chosen t = never_itself e (subst (λ o. is_passed o e ≡ true) (sym (pick_at (length pre) i q place_at) ∙ of.full i e item at_e t) passed)

        at : (b : Bool) × (known_from es ne ≡ Some b) → known_from es ne ≡ Some false
        at (true, f) = absurd (not_chosen (ap (λ o. says o true) f))
        at (false, f) = f

    given : accepted (formula u req) ms assumed (replay (citable (formula u req).constraints ms) (learn nothing assumed) es) ≡ true
    given =
        let cs = (formula u req).constraints in
        let reasons : HaveReasons (citable (formula u req).constraints ms) (formula u req).constraints (walk_picks u req (var_count u)) nothing es = lawful_reasons (citable (formula u req).constraints ms) (formula u req).constraints (walk_picks u req (var_count u)) es lawful fresh in
        let stop = stops u req (var_count u) (values_of es) r of w walks pre i q other is_w e item at_e (passed_is q e passed) (learn nothing assumed)
        (assumed_true but nothing assumed (is_so u i e) makes (in_right (is_so u i e) before (is_so u i e ∷ []) (inl refl)))
        (λ m j a f. assumed_true but nothing assumed (is_so u j a) makes (in_left (is_so u j a) before (is_so u i e ∷ []) (carries.1 m (the_place j (Some a)) (is_so u j a) f (inl refl))))
        (citable (formula u req).constraints ms) nothing (known_from es) es reasons fresh refl (values_agree es) false_end refl in
        let walked = replay_walks (citable (formula u req).constraints ms) (formula u req).constraints (walk_picks u req (var_count u)) nothing (learn nothing assumed) es reasons fresh (λ y b f. absurd (none_some f)) stop in
        ap (λ b. b && walk_from (citable (formula u req).constraints ms) (assume nothing assumed) (replay (citable (formula u req).constraints ms) (learn nothing assumed) es)) (within_in (var_count u) assumed (λ l h. (assumed_is l h).0))
        ∙ ap (λ o. walk_from (citable (formula u req).constraints ms) o (replay (citable (formula u req).constraints ms) (learn nothing assumed) es)) (assume_is but nothing assumed (λ y b f. absurd (none_some f)) makes)
        ∙ walked

  carry_on : (pre : List Place) (before : List Lit) (p : Place) → Carries pre before → Carries (pre ++ p ∷ []) (before ++ said_at u p.interface p.pick)
  carry_on pre before p c = (
    λ l h. elim (in_split l before (said_at u p.interface p.pick) h) [ inl a ↦ let s = c.0 l a in (s.0, s.1, at_front pre (p ∷ []) s.0 s.1 s.2, s.3) | inr b ↦ (length pre, p, mid_get pre p [], b) ],
    λ m y l f h. elim (push_case pre p y m f) [
      | inl g ↦ in_left l before (said_at u p.interface p.pick) (c.1 m y l g h)
      | inr g ↦ in_right l before (said_at u p.interface p.pick) (subst (λ (z : Place). In l (said_at u z.interface z.pick)) (sym g) h)
    ],
  )

  pub blocks : (n : ℕ) (pre : List Place) (before : List Lit) (rest : List Place) → w.places ≡ pre ++ rest → Carries pre before → AreGiven (formula u req) ms es (asked_from u n before rest)
  blocks n pre before [] is_w c = tt
  blocks n pre before (p ∷ rest) is_w c =
      given_app (formula u req) ms es (each 0 (asked_one u n before p) (candidates_of u p.interface)) (asked_from u (suc n) (before ++ said_at u p.interface p.pick) rest)
      (given_each (formula u req) ms es 0 (asked_one u n before p) (candidates_of u p.interface) (λ d k at. (let z : d ≡ 0 + d = omega arith in subst (λ m. AreGiven (formula u req) ms es (asked_one u n before p m k)) z (given_keep (formula u req) ms es (is_passed p.pick d) (record { place = n; candidate = var_number u (Cand p.interface d); assumed = before ++ is_so u p.interface d ∷ [] }) (λ h. (given pre p.interface p.pick rest is_w d k at h before c, tt))))))
      (blocks (suc n) (pre ++ p ∷ []) (before ++ said_at u p.interface p.pick) rest (is_w ∙ sym (append_assoc pre (p ∷ []) rest)) (carry_on pre before p c))

pub blocks_are_there : BlocksAreThere
blocks_are_there u req ms es s log lawful fresh full model held =
    blocks u req ms es lawful fresh full (r_of u req ms es s log lawful fresh full model held) (of_r u req ms es s log lawful fresh full model held) held.walk (r_walks u req ms es s log lawful fresh full model held) 1 [] [] held.walk.places refl ((λ l h. absurd h), (λ m p l f h. absurd (none_some f)))
