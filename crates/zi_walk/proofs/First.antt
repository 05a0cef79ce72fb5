-- Where the first candidate at every place is valid, all that is on the trail is true of it.
use Rattle.std.proofs.Common.{◌≡◌, ℕ, zero, suc, ◌==◌, ◌+◌, ◌<◌, ◌≤◌, Bool, true, false, eqb, cond, eqb-true, List, [], ◌∷◌, ◌++◌, length, map, refl, sym, ap, ◌∙◌, subst, arith, Option, Some, None, inl, inr}
use Rattle.std.specs.Prelude.{All}
use Rattle.std.proofs.lemmas.Bool.{false≢true, false_from_ne_true}
use Rattle.std.proofs.lemmas.List.Elements.{All-head, All-tail}
use Rattle.std.proofs.lemmas.Option.{same_Some}
use Rattle.zi_formula.specs.declared.formula.Lit.{Lit}
use Rattle.zi_formula.specs.declared.formula.Constraint.{Constraint}
use Rattle.zi_formula.specs.Truth.{all_true}
use Rattle.zi_proof.specs.declared.proof.Lemma.{Lemma}
use Rattle.zi_proof.specs.Known.{Known, nothing, put, says, is_open}
use Rattle.zi_proof.specs.Accepted.{citable, follows, lemma_clause}
use Rattle.zi_proof.specs.Laws.{MakesTrue}
use Rattle.zi_proof.proofs.Sound.{Agrees, Sound, cited_sound, put_agrees, lit_when, lemmas_are_true, all_append, open_not_true}
use Rattle.zi_sat.specs.Trail.{lits_of, learn, known_from, OpenAll, all_silent}
use Rattle.zi_sat.specs.Moves.{Move, Decide, Apply, entries_of, Right, Lawful}
use Rattle.zi_sat.specs.declared.entry.Entry.{Entry}
use Rattle.zi_sat.specs.Ends.{NoModelHere}
use Rattle.zi_sat.specs.Least.{first_of, least_open}
use Rattle.zi_sat.proofs.MoveLaws.{open_rest, known-moves}
use Rattle.zi_universe.specs.declared.types.Requirement.{Requirement}
use Rattle.zi_universe.specs.declared.types.Candidate.{Candidate}
use Rattle.zi_universe.specs.declared.types.Interface.{Interface}
use Rattle.zi_choice.specs.Choice.{Choice, pick, candidate_at}
use Rattle.zi_choice.specs.Walk.{Place, Walk, Walks, is_listed}
use Rattle.zi_choice.specs.Valid.{IsValid}
use Rattle.zi_choice.proofs.ThereLaws.{walk_there}
use Rattle.zi_choice.proofs.ApartLaws.{walks_part}
use Rattle.zi_choice.specs.Vars.{Var, Cand, candidates_of, var_number, var_count}
use Rattle.zi_build.specs.Clauses.{formula}
use Rattle.zi_choice.proofs.Base.{candidate_is, any_found}
use Rattle.zi_build.proofs.Meaning.{Means}
use Rattle.zi_choice.proofs.WalkFacts.{faithful, on_is}
use Rattle.zi_build.proofs.ValidMeans.{chosen_vars, pick_eq, pick_is}
use Rattle.zi_build.proofs.Central.{by_var, models_mean, values_of, values_at, valid_models}
use Rattle.zi_build.proofs.Table.{variable_of}
use Rattle.zi_walk.specs.Laws.{IsFirst, FirstIsKept}
use Rattle.zi_walk.proofs.Quiet.{true_known}
use Rattle.zi_walk.specs.Rule.{is_undecided, is_chosen, so_far, walk_of, first_open, as_lit, walk_picks}
use Rattle.zi_walk.proofs.Rules.{FirstAt, first_is, first_none, so_far_picks, NoneWaits, none_open, OpensAt, opens_at}
use Rattle.zi_walk.proofs.Passed.{IsOf, walk_faithful, settled, reaches, stays, the_place, AllFaithful, learn_extends}
use Rattle.zi_sat.proofs.FreshLaws.{self_case}
use Rattle.zi_sat.proofs.ReachLaws.{some_of as not_open}
use Rattle.zi_feed.specs.IdLaws.{none_some}
use Rattle.zi_proof.proofs.CutLaws.{test_same}
use Rattle.zi_text.proofs.ListLaws.{some_is, some_of}

first_here : (u : List Interface) (ps before : List Place) (p : Place) (behind : List Place) → ps ≡ before ++ p ∷ behind → All (IsFirst u) ps → IsFirst u p
first_here u ps before p behind e h = at before (subst (λ xs. All (IsFirst u) xs) e h)
  where
    at : (before : List Place) → All (IsFirst u) (before ++ p ∷ behind) → IsFirst u p
    at [] h = All-head (IsFirst u) p behind h
    at (b ∷ bs) h = at bs (All-tail (IsFirst u) b (bs ++ p ∷ behind) h)

no_less : (k : ℕ) (xs : List Candidate) → k < length xs → xs ≡ [] → ⊥
no_less k xs l e = let z : length xs ≡ 0 = ap length e in omega (arith, l, z)

-- the trail's literals are true where all that it knows is so
makes_known : (v : ℕ → Bool) (k : Known) (ls : List Lit) → OpenAll k ls → Agrees v (learn k ls) → MakesTrue v ls
makes_known v k [] o g = tt
makes_known v k (l ∷ ls) o g =
    (lit_when v l (g l.variable l.positive (learn_extends (put k l) ls o.1 l.variable l.positive (self_case k l (eqb l.variable l.variable) (test_same l.variable)))), makes_known v (put k l) ls o.1 g)

pub faithful_at : (s : Choice) (before : List Place) (p : Place) (behind : List Place) → AllFaithful s (before ++ p ∷ behind) → p.pick ≡ pick s p.interface
faithful_at s [] p behind f = f.0
faithful_at s (c ∷ cs) p behind f = faithful_at s cs p behind f.1

-- the first undecided variable of so many
least_is : (n : ℕ) (k : Known) (l : Lit) → least_open n k ≡ Some l → (x : ℕ) × (1 ≤ x) × (x ≤ n) × (is_open (k x) ≡ true) × (l ≡ record { variable = x; positive = false })
least_is zero k l e = absurd (none_some e)
least_is (suc n) k l e = at (least_open n k) refl e (λ m f. least_is n k m f)
  where
    here : (b : Bool) → is_open (k (suc n)) ≡ b → cond b (Some (record { variable = suc n; positive = false })) None ≡ Some l → (x : ℕ) × (1 ≤ x) × (x ≤ suc n) × (is_open (k x) ≡ true) × (l ≡ record { variable = x; positive = false })
    here true o h = (suc n, omega arith, omega arith, o, sym (same_Some _ _ h))
    here false o h = absurd (none_some h)

    at : (o : Option Lit) → least_open n k ≡ o → first_of o (cond (is_open (k (suc n))) (Some (record { variable = suc n; positive = false })) None) ≡ Some l → ((m : Lit) → least_open n k ≡ Some m → (x : ℕ) × (1 ≤ x) × (x ≤ n) × (is_open (k x) ≡ true) × (m ≡ record { variable = x; positive = false })) → (x : ℕ) × (1 ≤ x) × (x ≤ suc n) × (is_open (k x) ≡ true) × (l ≡ record { variable = x; positive = false })
    at None f h later = here (is_open (k (suc n))) refl h
    at (Some m) f h later = let r = later m f in let high = r.2 in (r.0, r.1, omega (arith, high), r.3, sym (same_Some _ _ h) ∙ r.4)

module _ (u : List Interface) (req : Requirement) (s : Choice) (valid : IsValid u req s) (first : All (IsFirst u) valid.walk.places) where
  abbrev v : ℕ → Bool
  v x = values_of u s valid.walk x

  abbrev known_walk : Known → Walk
  known_walk k = walk_of u req (so_far u k)

  known_walks : (k : Known) → Walks u req (so_far u k) (known_walk k)
  known_walks k = (walk_there u req (so_far u k)).1

  -- it is the choice of its own values
  of : IsOf u v s
  of = record {
    sound = λ i c p. let t = valid.fits.there i c p in let k = some_of (candidate_at u i c) t in let at = sym (candidate_is u i c) ∙ k.1 in (k.0, at, values_at u s valid.walk (Cand i c) (k.0, at) ∙ pick_is (pick s i) c p);
    full = λ i c k at t. pick_eq (pick s i) c (sym (values_at u s valid.walk (Cand i c) (k, at)) ∙ t);
  }

  means : Means u req (by_var u v)
  means = (models_mean u req v).0 (valid_models u req s valid)

  -- the first undecided candidate is the first one
  picks_first : (k : Known) (y : Var) → Agrees v k → OpensAt u k (known_walk k).places y → v (var_number u y) ≡ true
  picks_first k y g o =
      let f = walk_faithful u req (so_far u k) (known_walk k) (known_walks k) in
      let at_s = reaches u k s (settled u k v s g of) (known_walk k) valid.walk o.before o.place o.behind (walks_part u req (so_far u k) s (known_walk k) valid.walk (known_walks k) valid.walks) o.are o.settled f (walk_faithful u req s valid.walk valid.walks) in
      let here : IsFirst u (the_place o.place.interface (pick s o.place.interface)) = first_here u valid.walk.places o.before (the_place o.place.interface (pick s o.place.interface)) at_s.0 at_s.1 first in
      let at = first_is (is_undecided u k o.place.interface) 0 (candidates_of u o.place.interface) o.candidate o.opens in
      let none : pick (so_far u k) o.place.interface ≡ None = sym (faithful_at (so_far u k) o.before o.place o.behind (subst (λ ps. AllFaithful (so_far u k) ps) o.are f)) ∙ o.none in
      subst (λ z. v (var_number u z) ≡ true) (sym o.is) (by o.place.interface o.candidate at here none)
    where
      not_shut : (j : ℕ) → is_open (k (var_number u (Cand j 0))) ≡ false → pick (so_far u k) j ≡ None → 0 < length (candidates_of u j) → pick s j ≡ Some 0 → ⊥
      not_shut j shut none some p =
          let b = not_open (k (var_number u (Cand j 0))) shut in
          let z : 0 + 0 ≡ 0 = omega arith in
          let not_true : says (k (var_number u (Cand j 0))) true ≡ false = subst (λ m. says (k (var_number u (Cand j m))) true ≡ false) z (first_none (is_chosen u k j) 0 (candidates_of u j) (sym (so_far_picks u k j) ∙ none) 0 some) in
          at b.0 b.1 not_true (g (var_number u (Cand j 0)) b.0 b.1) (of.sound j 0 p).2
        where
          at : {o : Option Bool} {w : Bool} (b : Bool) → o ≡ Some b → says o true ≡ false → w ≡ b → w ≡ true → ⊥
          at true e f g h = false≢true (sym f ∙ ap (λ o. says o true) e)
          at false e f g h = false≢true (sym g ∙ h)

      by : (j c : ℕ) → FirstAt (is_undecided u k j) 0 (length (candidates_of u j)) c → IsFirst u (the_place j (pick s j)) → pick (so_far u k) j ≡ None → v (var_number u (Cand j c)) ≡ true
      by j c at (inr h) none = absurd (no_less at.on (candidates_of u j) at.within h.1)
      by j c at (inl h) none = zero_or at.on refl
        where
          zero_or : (m : ℕ) → at.on ≡ m → v (var_number u (Cand j c)) ≡ true
          zero_or zero e = let i = at.is in let z : 0 ≡ c = omega (arith, i, e) in subst (λ d. v (var_number u (Cand j d)) ≡ true) z (of.sound j 0 h).2
          zero_or (suc m) e =
              let less : 0 < at.on = omega (arith, e) in
              let z : 0 + 0 ≡ 0 = omega arith in
              let w = at.within in
              absurd (not_shut j (subst (λ d. is_open (k (var_number u (Cand j d))) ≡ false) z (at.before 0 less)) none (omega (arith, w)) h)

  -- once nothing waits, what is chosen is known
  cand_known : (k : Known) → Agrees v k → NoneWaits u k (known_walk k).places → (i c : ℕ) → pick s i ≡ Some c → says (k (var_number u (Cand i c))) true ≡ true
  cand_known k g n i c p =
      let f = walk_faithful u req (so_far u k) (known_walk k) (known_walks k) in
      let one : known_walk k ≡ valid.walk = stays u k s (settled u k v s g of) (known_walk k) valid.walk (walks_part u req (so_far u k) s (known_walk k) valid.walk (known_walks k) valid.walks) n f in
      let on : is_listed valid.walk i ≡ true = (on_is u req s valid.walk valid.walks i ((valid.exactly i).0 (some_is (pick s i) c p))).1 in
      let mine = any_found (λ (x : Place). x.interface == i) valid.walk.places on in
      let same : mine.1.interface ≡ i = eqb-true mine.1.interface i mine.3 in
      let in_s : pick s mine.1.interface ≡ mine.1.pick = faithful u req s valid.walk valid.walks mine.1.interface mine.1.pick mine.0 mine.2 in
      let in_k : pick (so_far u k) mine.1.interface ≡ mine.1.pick = faithful u req (so_far u k) valid.walk (subst (λ w. Walks u req (so_far u k) w) one (known_walks k)) mine.1.interface mine.1.pick mine.0 mine.2 in
      let known : pick (so_far u k) i ≡ Some c = subst (λ j. pick (so_far u k) j ≡ pick s j) same (in_k ∙ sym in_s) ∙ p in
      (first_is (is_chosen u k i) 0 (candidates_of u i) c (sym (so_far_picks u k i) ∙ known)).passes

  decide_true : (k : Known) (l : Lit) → walk_picks u req (var_count u) k ≡ Some l → all_silent k (formula u req).constraints ≡ true → Agrees v k → v l.variable ≡ l.positive
  decide_true k l c q g = at (first_open u k (known_walk k).places) refl c
    where
      least : NoneWaits u k (known_walk k).places → least_open (var_count u) k ≡ Some l → v l.variable ≡ l.positive
      least n e =
          let r = least_is (var_count u) k l e in
          let y = variable_of u r.0 r.1 r.2 in
          let false_there : v r.0 ≡ false = false_from_ne_true (v r.0) (λ t.
          let yt : chosen_vars u s valid.walk y.0 ≡ true = sym (values_at u s valid.walk y.0 y.1) ∙ ap v y.2 ∙ t in
          let kt = true_known u req k v s g of (cand_known k g n) means q valid y.0 y.1 yt in
          open_not_true (k r.0) r.3 (subst (λ x. says (k x) true ≡ true) y.2 kt)) in
          subst (λ (m : Lit). v m.variable ≡ m.positive) (sym r.4) false_there

      at : (o : Option Var) → first_open u k (known_walk k).places ≡ o → first_of (as_lit u o) (least_open (var_count u) k) ≡ Some l → v l.variable ≡ l.positive
      at None f d = least (none_open u k (known_walk k).places f) d
      at (Some y) f d = subst (λ (m : Lit). v m.variable ≡ m.positive) (same_Some _ _ d) (picks_first k y g (opens_at u k (known_walk k).places y f))

  along : (all : List Constraint) (k : Known) (ms : List Move) → Right all (formula u req).constraints (walk_picks u req (var_count u)) k ms → OpenAll k (lits_of (entries_of ms)) → all_true v all ≡ true → Agrees v k → Agrees v (learn k (lits_of (entries_of ms)))
  along all k [] m o a g = g
  along all k (Decide l ∷ ms) m o a g = along all (put k l) ms m.2 o.1 a (put_agrees v k l (decide_true k l m.0 m.1 g) g)
  along all k (Apply d ls ∷ ms) m o a g =
      subst (Agrees v) (sym (known-moves k d ls (entries_of ms))) (along all (learn k ls) ms m.1 (open_rest k d ls (entries_of ms) o) a (subst (Sound v) m.0.0 (cited_sound v k all d g a)))

  pub kept : (ms : List Lemma) (es : List Entry) → follows (formula u req) ms ≡ true → Lawful (citable (formula u req).constraints ms) (formula u req).constraints (walk_picks u req (var_count u)) es → OpenAll nothing (lits_of es) → ¬ NoModelHere (formula u req) es
  kept ms es log lawful o none =
      let model = valid_models u req s valid in
      let all_are : all_true v (citable (formula u req).constraints ms) ≡ true = all_append v (formula u req).constraints (map lemma_clause ms) model (lemmas_are_true (formula u req) ms v log model) in
      let here = along (citable (formula u req).constraints ms) nothing lawful.0 lawful.2 (subst (λ fs. OpenAll nothing (lits_of fs)) lawful.1 o) all_are (λ x b e. absurd (none_some e)) in
      none v model (makes_known v nothing (lits_of es) o (subst (λ fs. Agrees v (known_from fs)) (sym lawful.1) here))

pub first_is_kept : FirstIsKept
first_is_kept u req ms es s log lawful o valid first = kept u req s valid first ms es log lawful o
