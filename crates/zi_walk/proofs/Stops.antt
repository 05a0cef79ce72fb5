-- From what a block assumes, the trail comes to the contradiction.
use Rattle.std.proofs.Common.{◌≡◌, ℕ, zero, suc, ◌==◌, Bool, true, false, not, eqb, cond, List, [], ◌∷◌, ◌++◌, length, refl, sym, ap, ◌∙◌, subst, arith, Option, Some, None, ◌⊎◌, inl, inr, eqb-true, eq-eqb}
use Rattle.std.specs.Prelude.{slice_get}
use Rattle.std.proofs.lemmas.Bool.{false≢true, cases_eq}
use Rattle.std.proofs.lemmas.Bool.Decides.{nat_tests}
use Rattle.std.proofs.lemmas.Option.{same_Some}
use Rattle.std.proofs.lemmas.Map.Keys.{any_passes_from_place}
use Rattle.zi_formula.specs.declared.formula.Lit.{Lit}
use Rattle.zi_formula.specs.declared.formula.Constraint.{Constraint}
use Rattle.zi_formula.specs.Truth.{lit_true}
use Rattle.zi_proof.specs.Known.{Known, put, says, is_open, is_true, is_false}
use Rattle.zi_proof.specs.Accepted.{assume}
use Rattle.zi_proof.specs.Laws.{MakesTrue}
use Rattle.zi_proof.proofs.Sound.{Agrees, put_agrees, value_of_true}
use Rattle.zi_sat.specs.declared.entry.Entry.{Entry}
use Rattle.zi_sat.specs.declared.entry.Why.{Why}
use Rattle.zi_sat.specs.declared.entry.Why.TheVariants.{Decision, Hint}
use Rattle.zi_sat.specs.Trail.{lits_of, learn, OpenAll}
use Rattle.zi_sat.specs.Entries.{HasReason, HaveReasons}
use Rattle.zi_universe.specs.declared.types.Requirement.{Requirement}
use Rattle.zi_universe.specs.declared.types.Candidate.{Candidate}
use Rattle.zi_universe.specs.declared.types.Interface.{Interface}
use Rattle.zi_choice.specs.Choice.{Choice, pick}
use Rattle.zi_choice.specs.Walk.{Place, Walk, Walks, Visits, Needs, NeedsEach, Follows, listed, comes, lacks, again, uses, no_more, one_more, ends, passes, goes, is_listed, with_place}
use Rattle.zi_parts.specs.declared.types.Dep.{Dep}
use Rattle.zi_choice.specs.Vars.{Cand, var_number}
use Rattle.zi_build.specs.Clauses.{formula, yes, lit_of}
use Rattle.zi_choice.proofs.ThereLaws.{In}
use Rattle.zi_build.proofs.Meaning.{IsAt}
use Rattle.zi_walk.specs.Rule.{walk_picks}
use Rattle.zi_walk.proofs.Passed.{IsOf, Extends, learn_extends, the_place}
use Rattle.zi_walk.proofs.Ways.{IsPassed, IsSaid, decision_said}
use Rattle.zi_walk.proofs.Replay.{IsHinted, IsGiven, Stops}
use Rattle.zi_sat.proofs.LessLaws.{some_says}
use Rattle.zi_sat.proofs.FreshLaws.{self_case, put_extends}
use Rattle.zi_feed.specs.IdLaws.{none_some}
use Rattle.zi_proof.proofs.CutLaws.{test_same}

-- a walk lists an interface once
abbrev pub AreOnce : List Place → Type 0
AreOnce ps = (m n : ℕ) (x y : Place) → slice_get ps m ≡ Some x → slice_get ps n ≡ Some y → x.interface ≡ y.interface → m ≡ n

push_at : {A : Type 0} (xs : List A) (y x : A) (n : ℕ) → slice_get (xs ++ y ∷ []) n ≡ Some x → (slice_get xs n ≡ Some x) ⊎ ((y ≡ x) × (n ≡ length xs))
push_at [] y x zero e = inr (same_Some _ _ e, refl)
push_at [] y x (suc n) e = absurd (none_some e)
push_at (z ∷ xs) y x zero e = inl e
push_at (z ∷ xs) y x (suc n) e = elim (push_at xs y x n e) [ inl a ↦ inl a | inr b ↦ inr (b.0, ap suc b.1) ]

once_place : (s : Choice) (i : ℕ) (a : Walk) → is_listed a i ≡ false → AreOnce a.places → AreOnce (with_place s i a).places
once_place s i a new h m n x y e f q =
    let new_place : Place = record { interface = i; pick = pick s i } in
    elim (push_at a.places (record { interface = i; pick = pick s i }) x m e) [
      | inl p ↦ elim (push_at a.places (record { interface = i; pick = pick s i }) y n f) [ inl r ↦ h m n x y p r q | inr r ↦ absurd (is_new m x p (q ∙ sym (ap (λ (z : Place). z.interface) r.0))) ]
      | inr p ↦ elim (push_at a.places (record { interface = i; pick = pick s i }) y n f) [ inl r ↦ absurd (is_new n y r (sym q ∙ sym (ap (λ (z : Place). z.interface) p.0))) | inr r ↦ p.1 ∙ sym r.1 ]
    ]
  where
    is_new : (k : ℕ) (z : Place) → slice_get a.places k ≡ Some z → z.interface ≡ i → ⊥
    is_new k z e q = false≢true (sym new ∙ any_passes_from_place (λ (p : Place). p.interface == i) a.places k z e (eq-eqb z.interface i q))

mutual
  once_visit : {u : List Interface} {s : Choice} {i : ℕ} {a b : Walk} → Visits u s i a b → AreOnce a.places → AreOnce b.places
  once_visit (listed e) h = h
  once_visit {s = s} (comes {i = i} {a = a} e f) h = once_follow f (once_place s i a e h)

  once_need : {u : List Interface} {s : Choice} {i : ℕ} {name : List ℕ} {a b : Walk} → Needs u s i name a b → AreOnce a.places → AreOnce b.places
  once_need (lacks e) h = h
  once_need (again e) h = h
  once_need (uses m e n f) h = once_follow f h

  once_each : {u : List Interface} {s : Choice} {i : ℕ} {names : List (List ℕ)} {a b : Walk} → NeedsEach u s i names a b → AreOnce a.places → AreOnce b.places
  once_each no_more h = h
  once_each (one_more n e) h = once_each e (once_need n h)

  once_follow : {u : List Interface} {s : Choice} {ds : List Dep} {a b : Walk} → Follows u s ds a b → AreOnce a.places → AreOnce b.places
  once_follow ends h = h
  once_follow (passes e f) h = once_follow f h
  once_follow (goes i e v n f) h = once_follow f (once_each n (once_visit v h))

pub walk_once : (u : List Interface) (req : Requirement) (s : Choice) (w : Walk) → Walks u req s w → AreOnce w.places
walk_once u req s w k = once_each k.needs (once_visit k.visits (λ m n x y e f q. absurd (none_some e)))

-- literals that are all true under one assignment can be assumed, and are true then
is_false_not : (a : ℕ → Bool) (k : Known) (l : Lit) → Agrees a k → lit_true a l ≡ true → is_false k l ≡ false
is_false_not a k l g t = at (k l.variable) refl
  where
    clash : (p w : Bool) → w ≡ p → w ≡ not p → ⊥
    clash true w e f = false≢true (sym f ∙ e)
    clash false w e f = false≢true (sym e ∙ f)

    by : (b p : Bool) → (b ≡ not p → ⊥) → says (Some b) (not p) ≡ false
    by true true h = refl
    by true false h = absurd (h refl)
    by false true h = absurd (h refl)
    by false false h = refl

    at : (o : Option Bool) → k l.variable ≡ o → says o (not l.positive) ≡ false
    at None e = refl
    at (Some b) e = by b l.positive (λ f. clash l.positive (a l.variable) (value_of_true a l t) (g l.variable b e ∙ f))

pub assume_is : (a : ℕ → Bool) (k : Known) (ls : List Lit) → Agrees a k → MakesTrue a ls → assume k ls ≡ Some (learn k ls)
assume_is a k [] g t = refl
assume_is a k (l ∷ ls) g t =
    ap (λ b. cond b None (assume (put k l) ls)) (is_false_not a k l g t.0) ∙ assume_is a (put k l) ls (put_agrees a k l (value_of_true a l t.0) g) t.1

stays_true : (a : ℕ → Bool) (k : Known) (ls : List Lit) (l : Lit) → lit_true a l ≡ true → MakesTrue a ls → is_true k l ≡ true → is_true (learn k ls) l ≡ true
stays_true a k [] l t m h = h
stays_true a k (x ∷ ls) l t m h = stays_true a (put k x) ls l t m.1 (at (eqb l.variable x.variable) refl)
  where
    at : (b : Bool) → eqb l.variable x.variable ≡ b → says (cond b (Some x.positive) (k l.variable)) l.positive ≡ true
    at true e =
        let z : l.variable ≡ x.variable = grind (arith, nat_tests) in
        let same : x.positive ≡ l.positive = sym (value_of_true a x m.0) ∙ ap a (sym z) ∙ value_of_true a l t in
        ap (λ p. says (Some p) l.positive) same ∙ some_says l.positive
    at false e = h

pub assumed_true : (a : ℕ → Bool) (k : Known) (ls : List Lit) (l : Lit) → MakesTrue a ls → In l ls → is_true (learn k ls) l ≡ true
assumed_true a k [] l m i = absurd i
assumed_true a k (x ∷ ls) l m (inl e) =
    let t : lit_true a l ≡ true = subst (λ y. lit_true a y ≡ true) e m.0 in
    stays_true a (put k x) ls l t m.1 (subst (λ y. is_true (put k y) l ≡ true) (sym e) (ap (λ b. says (cond b (Some l.positive) (k l.variable)) l.positive) (test_same l.variable) ∙ some_says l.positive))
assumed_true a k (x ∷ ls) l m (inr i) = assumed_true a (put k x) ls l m.1 i

-- the trail comes to the literal that contradicts the passed candidate, and each decision before it was assumed
module _ (u : List Interface) (req : Requirement) (n : ℕ) (x : ℕ → Bool) (r : Choice) (of_r : IsOf u x r) (b : Walk) (walks_r : Walks u req r b) (pre : List Place) (i : ℕ) (q : Option ℕ) (other : List Place) (is_r : b.places ≡ pre ++ the_place i q ∷ other) (e : ℕ) (item : Candidate) (at_e : IsAt u i e item) (passed : IsPassed q e) (g0 : Known) (has_e : is_true g0 (lit_of u (yes (Cand i e))) ≡ true) (said : (m j a : ℕ) → slice_get pre m ≡ Some (the_place j (Some a)) → is_true g0 (lit_of u (yes (Cand j a))) ≡ true) where
  abbrev ne : ℕ
  ne = var_number u (Cand i e)

  still_open : (k : Known) (l : Lit) → (ne ≡ l.variable → ⊥) → is_open (k ne) ≡ true → is_open (put k l ne) ≡ true
  still_open k l d o = at (eqb ne l.variable) refl
    where
      at : (c : Bool) → eqb ne l.variable ≡ c → is_open (cond c (Some l.positive) (k ne)) ≡ true
      at true f = absurd (d (eqb-true ne l.variable f))
      at false f = o

  positive_not : (l : Lit) (p : List Place) → IsSaid u l p → l.positive ≡ false → ⊥
  positive_not l p s f = false≢true (sym f ∙ ap (λ (m : Lit). m.positive) s.is)

  pub stops : (all : List Constraint) (k g : Known) (es : List Entry) → HaveReasons all (formula u req).constraints (walk_picks u req n) k es → OpenAll k (lits_of es) → learn k (lits_of es) ≡ g → Agrees x g → g ne ≡ Some false → is_open (k ne) ≡ true → Stops g0 es
  stops all k g [] h o end agrees f free = absurd (false≢true (sym (ap (λ v. is_open v) (ap (λ (w : Known). w ne) end ∙ f)) ∙ free))
  stops all k g (d ∷ es) h o end agrees f free =
      let l = d.lit in
      let more : Extends (put k d.lit) g = subst (Extends (put k d.lit)) end (learn_extends (put k d.lit) (lits_of es) o.1) in
      let below : Extends k g = λ y c z. more y c (put_extends k d.lit o.0 y c z) in
      let final : g d.lit.variable ≡ Some d.lit.positive = more d.lit.variable d.lit.positive (self_case k d.lit (eqb d.lit.variable d.lit.variable) (test_same d.lit.variable)) in
      by d.why h.0 below final (cases_eq ne d.lit.variable) (λ y. stops all (put k d.lit) g es h.1 o.1 end agrees f (still_open k d.lit y free))
    where
      sign : {a c : Bool} → Some a ≡ Some c → a ≡ c
      sign e = cc

      by : (w : Why) → HasReason all (formula u req).constraints (walk_picks u req n) k d.lit w → Extends k g → g d.lit.variable ≡ Some d.lit.positive → (ne ≡ d.lit.variable) ⊎ (ne ≡ d.lit.variable → ⊥) → ((ne ≡ d.lit.variable → ⊥) → Stops g0 es) → ((is_false g0 d.lit ≡ true) × IsHinted w) ⊎ (IsGiven g0 d.lit w × Stops g0 es)
      by w h below final (inl y) later =
          let negative : d.lit.positive ≡ false = sign (sym final ∙ ap g (sym y) ∙ f) in
          inl (ap (λ p. says (g0 d.lit.variable) (not p)) negative ∙ ap (λ v. says (g0 v) true) (sym y) ∙ has_e, hinted w h negative)
        where
          hinted : (w : Why) → HasReason all (formula u req).constraints (walk_picks u req n) k d.lit w → d.lit.positive ≡ false → IsHinted w
          hinted Decision h neg = positive_not d.lit pre (decision_said u req n x r of_r b walks_r pre i q other is_r e item at_e passed k d.lit (λ y c z. agrees y c (below y c z)) h.0 (agrees d.lit.variable d.lit.positive final) h.1 free) neg
          hinted (Hint t) h neg = tt
      by Decision h below final (inr y) later =
          let s = decision_said u req n x r of_r b walks_r pre i q other is_r e item at_e passed k d.lit (λ y c z. agrees y c (below y c z)) h.0 (agrees d.lit.variable d.lit.positive final) h.1 free in
          inr (subst (λ (m : Lit). is_true g0 m ≡ true) (sym s.is) (said s.place s.interface s.candidate s.there), later y)
      by (Hint t) h below final (inr y) later = inr (tt, later y)
