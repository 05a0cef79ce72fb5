-- The induction along the trail: no valid choice has a better candidate at the first place where its walk leaves that of the
-- trail's choice.
use Rattle.std.proofs.Common.{◌≡◌, ◌≢◌, ℕ, zero, suc, ◌+◌, ◌<◌, ◌≤◌, Bool, true, false, eqb, List, [], ◌∷◌, ◌++◌, length, refl, sym, ap, ◌∙◌, subst, arith, Option, Some, None}
use Rattle.std.specs.Prelude.{slice_get}
use Rattle.std.proofs.lemmas.Bool.{false≢true}
use Rattle.std.proofs.lemmas.Option.{slice_get_within, same_Some}
use Rattle.zi_formula.specs.declared.formula.Lit.{Lit}
use Rattle.zi_formula.specs.declared.formula.Constraint.{Constraint}
use Rattle.zi_formula.specs.Truth.{all_true}
use Rattle.zi_proof.specs.Known.{Known, put, says, is_open}
use Rattle.zi_proof.proofs.Sound.{Agrees, Sound, cited_sound, put_agrees}
use Rattle.zi_sat.specs.Trail.{lits_of, learn, OpenAll}
use Rattle.zi_sat.specs.Moves.{Move, Decide, Apply, entries_of, Right}
use Rattle.zi_sat.specs.Least.{first_of, least_open}
use Rattle.zi_sat.proofs.MoveLaws.{open_rest, known-moves}
use Rattle.zi_universe.specs.declared.types.Requirement.{Requirement}
use Rattle.zi_universe.specs.declared.types.Candidate.{Candidate}
use Rattle.zi_universe.specs.declared.types.Interface.{Interface}
use Rattle.zi_choice.specs.Choice.{Choice, pick}
use Rattle.zi_choice.specs.Walk.{Place, Walk, Walks}
use Rattle.zi_choice.specs.Best.{IsBetter}
use Rattle.zi_choice.proofs.ThereLaws.{walk_there}
use Rattle.zi_choice.proofs.ApartLaws.{Goes as Two, together, parted, walks_part}
use Rattle.zi_choice.specs.Vars.{Var, Cand, candidates_of, var_number, var_count}
use Rattle.zi_build.specs.Clauses.{yes, lit_of}
use Rattle.zi_build.proofs.Meaning.{IsAt}
use Rattle.zi_choice.proofs.WalkFacts.{faithful}
use Rattle.zi_build.proofs.Numbers.{number_low, number_high}
use Rattle.zi_walk.specs.Rule.{is_chosen, is_undecided, so_far, walk_of, open_at, if_none, waits_at, first_open, as_lit, walk_picks}
use Rattle.zi_walk.proofs.Rules.{FirstAt, first_is, first_none, so_far_picks, NoneWaits, none_open, OpensAt, opens_at}
use Rattle.zi_sat.proofs.FreshLaws.{self_case, put_extends}
use Rattle.zi_sat.proofs.ReachLaws.{some_of}
use Rattle.zi_feed.specs.IdLaws.{none_some}
use Rattle.zi_proof.proofs.CutLaws.{test_same}

-- the choice of an assignment: its true candidates
pub record IsOf (u : List Interface) (v : ℕ → Bool) (t : Choice) : Type 0 where
  pub sound : (i c : ℕ) → pick t i ≡ Some c → (k : Candidate) × IsAt u i c k × (v (var_number u (Cand i c)) ≡ true)
  pub full : (i c : ℕ) (k : Candidate) → IsAt u i c k → v (var_number u (Cand i c)) ≡ true → pick t i ≡ Some c

pub says_some : (o : Option Bool) → says o true ≡ true → o ≡ Some true
says_some None e = absurd (false≢true e)
says_some (Some true) e = refl
says_some (Some false) e = absurd (false≢true e)

pub candidate_below : (ks : List Candidate) (c : ℕ) → c < length ks → (k : Candidate) × (slice_get ks c ≡ Some k)
candidate_below [] c l = absurd (omega (arith, l))
candidate_below (k ∷ ks) zero l = (k, refl)
candidate_below (k ∷ ks) (suc c) l = candidate_below ks c (omega (arith, l))

-- where nothing waits, a choice of an assignment that says what is known has what is known to be chosen
module _ (u : List Interface) (k : Known) (v : ℕ → Bool) (t : Choice) (agrees : Agrees v k) (of : IsOf u v t) where
  known_chosen : (i c : ℕ) → pick (so_far u k) i ≡ Some c → pick t i ≡ Some c
  known_chosen i c e =
      let f = first_is (is_chosen u k i) 0 (candidates_of u i) c (sym (so_far_picks u k i) ∙ e) in
      let on = f.on in
      let q : on ≡ c = (let z = f.is in omega (arith, z)) in
      let x = candidate_below (candidates_of u i) c (subst (λ n. n < length (candidates_of u i)) q f.within) in
      of.full i c x.0 x.1 (agrees (var_number u (Cand i c)) true (says_some (k (var_number u (Cand i c))) f.passes))

  none_chosen : (p : Place) → open_at u k p ≡ None → pick (so_far u k) p.interface ≡ None → (o : Option ℕ) → pick t p.interface ≡ o → o ≡ None
  none_chosen p e f None q = refl
  none_chosen p e f (Some c) q =
      let i = p.interface in
      let x = of.sound i c q in
      let l : c < length (candidates_of u i) = slice_get_within (candidates_of u i) c x.0 x.1 in
      let z : 0 + c ≡ c = omega arith in
      let shut : is_open (k (var_number u (Cand i c))) ≡ false = subst (λ n. is_open (k (var_number u (Cand i n))) ≡ false) z (first_none (is_undecided u k i) 0 (candidates_of u i) e c l) in
      let not_true : says (k (var_number u (Cand i c))) true ≡ false = subst (λ n. says (k (var_number u (Cand i n))) true ≡ false) z (first_none (is_chosen u k i) 0 (candidates_of u i) (sym (so_far_picks u k i) ∙ f) c l) in
      let b = some_of (k (var_number u (Cand i c))) shut in
      absurd (at b.0 b.1 not_true (agrees (var_number u (Cand i c)) b.0 b.1) x.2)
    where
      at : {o : Option Bool} {w : Bool} (b : Bool) → o ≡ Some b → says o true ≡ false → w ≡ b → w ≡ true → ⊥
      at true e f g h = false≢true (sym f ∙ ap (λ o. says o true) e)
      at false e f g h = false≢true (sym g ∙ h)

  pub settled : (p : Place) → p.pick ≡ pick (so_far u k) p.interface → waits_at u k p ≡ None → pick t p.interface ≡ pick (so_far u k) p.interface
  settled p e w = at p.pick e w
    where
      at : (o : Option ℕ) → o ≡ pick (so_far u k) p.interface → if_none o (open_at u k p) ≡ None → pick t p.interface ≡ pick (so_far u k) p.interface
      at None f g = none_chosen p g (sym f) (pick t p.interface) refl ∙ f
      at (Some c) f g = known_chosen p.interface c (sym f) ∙ f

-- places of a walk are faithful, item by item
abbrev pub AllFaithful : Choice → List Place → Type 0
AllFaithful s [] = Unit {0}
AllFaithful s (p ∷ ps) = (p.pick ≡ pick s p.interface) × AllFaithful s ps

items_faithful : (s : Choice) (ps : List Place) → ((i : ℕ) (p : Option ℕ) (n : ℕ) → slice_get ps n ≡ Some (record { interface = i; pick = p }) → pick s i ≡ p) → AllFaithful s ps
items_faithful s [] h = tt
items_faithful s (p ∷ ps) h = (sym (h p.interface p.pick 0 refl), items_faithful s ps (λ i q n e. h i q (suc n) e))

pub walk_faithful : (u : List Interface) (req : Requirement) (s : Choice) (w : Walk) → Walks u req s w → AllFaithful s w.places
walk_faithful u req s w k = items_faithful s w.places (faithful u req s w k)

pub heads : {A : Type 0} {x y : A} {xs ys : List A} → x ∷ xs ≡ y ∷ ys → x ≡ y
heads e = cc

pub tails : {A : Type 0} {x y : A} {xs ys : List A} → x ∷ xs ≡ y ∷ ys → xs ≡ ys
tails e = cc

no_cons : {A : Type 0} {x : A} {xs : List A} → [] ≡ x ∷ xs → ⊥
no_cons e = cc

abbrev pub the_place : ℕ → Option ℕ → Place
the_place i p = record { interface = i; pick = p }

-- The walk of t is the same as that of what is known up to a place before which nothing waits, and comes to that interface.
module _ (u : List Interface) (k : Known) (t : Choice) (same : (p : Place) → p.pick ≡ pick (so_far u k) p.interface → waits_at u k p ≡ None → pick t p.interface ≡ pick (so_far u k) p.interface) where
  follow_to : (before : List Place) (x : Place) (behind common : List Place) (i : ℕ) (rest other : List Place) → before ++ x ∷ behind ≡ common ++ the_place i (pick (so_far u k) i) ∷ rest → pick (so_far u k) i ≢ pick t i → NoneWaits u k before → AllFaithful (so_far u k) (before ++ x ∷ behind) → AllFaithful t (common ++ the_place i (pick t i) ∷ other) → (more : List Place) × (common ++ the_place i (pick t i) ∷ other ≡ before ++ the_place x.interface (pick t x.interface) ∷ more)
  follow_to [] x behind [] i rest other e d n f g =
      let q : x.interface ≡ i = ap (λ (p : Place). p.interface) (heads e) in (other, ap (λ j. the_place j (pick t j) ∷ other) (sym q))
  follow_to [] x behind (c ∷ cs) i rest other e d n f g =
      let q : c ≡ x = sym (heads e) in
      let more = cs ++ the_place i (pick t i) ∷ other in
      (more, ap (λ y. the_place c.interface y ∷ more) g.0 ∙ ap (λ (y : Place). the_place y.interface (pick t y.interface) ∷ more) q)
  follow_to (p ∷ ps) x behind [] i rest other e d n f g =
      let q : p.interface ≡ i = ap (λ (p : Place). p.interface) (heads e) in
      absurd (d (sym (subst (λ j. pick t j ≡ pick (so_far u k) j) q (same p f.0 n.0))))
  follow_to (p ∷ ps) x behind (c ∷ cs) i rest other e d n f g =
      let r = follow_to ps x behind cs i rest other (tails e) d n.1 f.1 g.1 in
      (r.0, ap (λ y. y ∷ (cs ++ the_place i (pick t i) ∷ other)) (sym (heads e)) ∙ ap (λ ys. p ∷ ys) r.1)

  pub never_parts : (ps common : List Place) (i : ℕ) (rest : List Place) → ps ≡ common ++ the_place i (pick (so_far u k) i) ∷ rest → pick (so_far u k) i ≢ pick t i → NoneWaits u k ps → AllFaithful (so_far u k) ps → ⊥
  never_parts [] [] i rest e d n f = no_cons e
  never_parts [] (c ∷ cs) i rest e d n f = no_cons e
  never_parts (p ∷ ps) [] i rest e d n f =
      let q : p.interface ≡ i = ap (λ (p : Place). p.interface) (heads e) in
      d (sym (subst (λ j. pick t j ≡ pick (so_far u k) j) q (same p f.0 n.0)))
  never_parts (p ∷ ps) (c ∷ cs) i rest e d n f = never_parts ps cs i rest (tails e) d n.1 f.1

  at_same : (before : List Place) (x : Place) (behind : List Place) → AllFaithful t (before ++ x ∷ behind) → before ++ x ∷ behind ≡ before ++ the_place x.interface (pick t x.interface) ∷ behind
  at_same [] x behind f = ap (λ y. the_place x.interface y ∷ behind) f.0
  at_same (p ∷ ps) x behind f = ap (λ ys. p ∷ ys) (at_same ps x behind f.1)

  pub reaches : (a b : Walk) (before : List Place) (x : Place) (behind : List Place) → Two (so_far u k) t a b → a.places ≡ before ++ x ∷ behind → NoneWaits u k before → AllFaithful (so_far u k) a.places → AllFaithful t b.places → (more : List Place) × (b.places ≡ before ++ the_place x.interface (pick t x.interface) ∷ more)
  reaches a b before x behind (together e like) is n f g =
      let here : b.places ≡ before ++ x ∷ behind = ap (λ (w : Walk). w.places) (sym e) ∙ is in
      (behind, here ∙ at_same before x behind (subst (λ ps. AllFaithful t ps) here g))
  reaches a b before x behind (parted p) is n f g =
      let r = follow_to before x behind p.common p.interface p.rest p.other_rest (sym is ∙ p.is) p.differ n (subst (λ ps. AllFaithful (so_far u k) ps) is f) (subst (λ ps. AllFaithful t ps) p.other_is g) in
      (r.0, p.other_is ∙ r.1)

  pub stays : (a b : Walk) → Two (so_far u k) t a b → NoneWaits u k a.places → AllFaithful (so_far u k) a.places → a ≡ b
  stays a b (together e like) n f = e
  stays a b (parted p) n f = absurd (never_parts a.places p.common p.interface p.rest p.is p.differ n f)

-- Two walks that come to interface j behind the same places, and that part at interface i.
data Compared (t r : Choice) (j i e : ℕ) (q : Option ℕ) : Type 0 where
  alike : pick t j ≡ pick r j → Compared t r j i e q
  here : j ≡ i → pick t j ≡ Some e → pick r j ≡ q → Compared t r j i e q
  never : Some e ≡ q → Compared t r j i e q

compare : (t r : Choice) (j i e : ℕ) (q : Option ℕ) (before a b common rest other : List Place) → before ++ the_place j (pick t j) ∷ a ≡ common ++ the_place i (Some e) ∷ rest → before ++ the_place j (pick r j) ∷ b ≡ common ++ the_place i q ∷ other → Compared t r j i e q
compare t r j i e q [] a b [] rest other x y =
    here (ap (λ (p : Place). p.interface) (heads x)) (ap (λ (p : Place). p.pick) (heads x)) (ap (λ (p : Place). p.pick) (heads y))
compare t r j i e q [] a b (c ∷ cs) rest other x y = alike (ap (λ (p : Place). p.pick) (heads x ∙ sym (heads y)))
compare t r j i e q (p ∷ ps) a b [] rest other x y = never (ap (λ (p : Place). p.pick) (sym (heads x) ∙ heads y))
compare t r j i e q (p ∷ ps) a b (c ∷ cs) rest other x y = compare t r j i e q ps a b cs rest other (tails x) (tails y)

same_parting : (common rest other : List Place) (i e : ℕ) (q : Option ℕ) → common ++ the_place i (Some e) ∷ rest ≡ common ++ the_place i q ∷ other → Some e ≡ q
same_parting [] rest other i e q x = ap (λ (p : Place). p.pick) (heads x)
same_parting (c ∷ cs) rest other i e q x = same_parting cs rest other i e q (tails x)

never_better : (e : ℕ) (q : Option ℕ) → Some e ≡ q → IsBetter (Some e) q → ⊥
never_better e None x b = none_some (sym x)
never_better e (Some c) x b = let z : e ≡ c = same_Some _ _ x in omega (arith, z, b)

-- What is known stays known.
abbrev pub Extends : Known → Known → Type 0
Extends k g = (x : ℕ) (b : Bool) → k x ≡ Some b → g x ≡ Some b

pub learn_extends : (k : Known) (ls : List Lit) → OpenAll k ls → Extends k (learn k ls)
learn_extends k [] o = λ x b h. h
learn_extends k (l ∷ ls) o =
    λ x b h. learn_extends (put k l) ls o.1 x b (put_extends k l o.0 x b h)

-- t is the choice of v, and r that of x, which says what the trail knows in the end; their walks part at interface i, where t
-- has e, and r has q, which is worse.
module _ (u : List Interface) (req : Requirement) (n : ℕ) (room : n ≡ var_count u) (v x : ℕ → Bool) (t r : Choice) (of_t : IsOf u v t) (of_r : IsOf u x r) (a b : Walk) (walks_t : Walks u req t a) (walks_r : Walks u req r b) (common : List Place) (i e : ℕ) (q : Option ℕ) (rest other : List Place) (is_t : a.places ≡ common ++ the_place i (Some e) ∷ rest) (is_r : b.places ≡ common ++ the_place i q ∷ other) (better : IsBetter (Some e) q) where
  abbrev known_walk : Known → Walk
  known_walk k = walk_of u req (so_far u k)

  known_walks : (k : Known) → Walks u req (so_far u k) (known_walk k)
  known_walks k = (walk_there u req (so_far u k)).1

  -- nothing waits: then all three walks are one
  one_walk : (k : Known) → Agrees v k → Agrees x k → NoneWaits u k (known_walk k).places → ⊥
  one_walk k g h w =
      let f = walk_faithful u req (so_far u k) (known_walk k) (known_walks k) in
      let one : known_walk k ≡ a = stays u k t (settled u k v t g of_t) (known_walk k) a (walks_part u req (so_far u k) t (known_walk k) a (known_walks k) walks_t) w f in
      let two : known_walk k ≡ b = stays u k r (settled u k x r h of_r) (known_walk k) b (walks_part u req (so_far u k) r (known_walk k) b (known_walks k) walks_r) w f in
      never_better e q (same_parting common rest other i e q (sym is_t ∙ ap (λ (w : Walk). w.places) (sym one ∙ two) ∙ is_r)) better

  -- no candidate that stands before the first undecided one is that of t
  none_before : (k : Known) → Agrees v k → (j c : ℕ) → FirstAt (is_undecided u k j) 0 (length (candidates_of u j)) c → pick (so_far u k) j ≡ None → (d : ℕ) → pick t j ≡ Some d → d < c → ⊥
  none_before k g j c first none d p l =
      let z : 0 + d ≡ d = omega arith in
      let on = first.on in
      let w = first.is in
      let y = of_t.sound j d p in
      let inside : d < length (candidates_of u j) = slice_get_within (candidates_of u j) d y.0 y.1 in
      let shut : is_open (k (var_number u (Cand j d))) ≡ false = subst (λ m. is_open (k (var_number u (Cand j m))) ≡ false) z (first.before d (omega (arith, l, w))) in
      let not_true : says (k (var_number u (Cand j d))) true ≡ false = subst (λ m. says (k (var_number u (Cand j m))) true ≡ false) z (first_none (is_chosen u k j) 0 (candidates_of u j) (sym (so_far_picks u k j) ∙ none) d inside) in
      let b = some_of (k (var_number u (Cand j d))) shut in
      at b.0 b.1 not_true (g (var_number u (Cand j d)) b.0 b.1) y.2
    where
      at : {o : Option Bool} {w : Bool} (b : Bool) → o ≡ Some b → says o true ≡ false → w ≡ b → w ≡ true → ⊥
      at true e f g h = false≢true (sym f ∙ ap (λ o. says o true) e)
      at false e f g h = false≢true (sym g ∙ h)

  by_parting : (j c : ℕ) → pick r j ≡ Some c → ((d : ℕ) → pick t j ≡ Some d → d < c → ⊥) → Compared t r j i e q → v (var_number u (Cand j c)) ≡ true
  by_parting j c p less (alike h) = (of_t.sound j c (h ∙ p)).2
  by_parting j c p less (here ji tj rj) = absurd (less e tj (subst (λ o. IsBetter (Some e) o) (sym rj ∙ p) better))
  by_parting j c p less (never h) = absurd (never_better e q h better)

  -- the first undecided candidate, which is true in the end, is true in v
  picked_true : (k : Known) (y : Var) → Agrees v k → Agrees x k → OpensAt u k (known_walk k).places y → x (var_number u y) ≡ true → v (var_number u y) ≡ true
  picked_true k y g h o final =
      let f = walk_faithful u req (so_far u k) (known_walk k) (known_walks k) in
      let at_t = reaches u k t (settled u k v t g of_t) (known_walk k) a o.before o.place o.behind (walks_part u req (so_far u k) t (known_walk k) a (known_walks k) walks_t) o.are o.settled f (walk_faithful u req t a walks_t) in
      let at_r = reaches u k r (settled u k x r h of_r) (known_walk k) b o.before o.place o.behind (walks_part u req (so_far u k) r (known_walk k) b (known_walks k) walks_r) o.are o.settled f (walk_faithful u req r b walks_r) in
      let first = first_is (is_undecided u k o.place.interface) 0 (candidates_of u o.place.interface) o.candidate o.opens in
      let on = first.on in
      let same_on : on ≡ o.candidate = (let z = first.is in omega (arith, z)) in
      let y_true : x (var_number u (Cand o.place.interface o.candidate)) ≡ true = subst (λ z. x (var_number u z) ≡ true) o.is final in
      let item = candidate_below (candidates_of u o.place.interface) o.candidate (subst (λ m. m < length (candidates_of u o.place.interface)) same_on first.within) in
      let none : pick (so_far u k) o.place.interface ≡ None = sym (faithful_at (so_far u k) o.before o.place o.behind (subst (λ ps. AllFaithful (so_far u k) ps) o.are f)) ∙ o.none in
      subst (λ z. v (var_number u z) ≡ true) (sym o.is)
      (by_parting o.place.interface o.candidate (of_r.full o.place.interface o.candidate item.0 item.1 y_true) (none_before k g o.place.interface o.candidate first none)
      (compare t r o.place.interface i e q o.before at_t.0 at_r.0 common rest other (sym at_t.1 ∙ is_t) (sym at_r.1 ∙ is_r)))
    where
      faithful_at : (s : Choice) (before : List Place) (p : Place) (behind : List Place) → AllFaithful s (before ++ p ∷ behind) → p.pick ≡ pick s p.interface
      faithful_at s [] p behind f = f.0
      faithful_at s (c ∷ cs) p behind f = faithful_at s cs p behind f.1

  -- a decision by the rule, which is true in the end, is true in v
  decide_true : (k : Known) (l : Lit) → walk_picks u req n k ≡ Some l → Agrees v k → Agrees x k → x l.variable ≡ l.positive → v l.variable ≡ l.positive
  decide_true k l c g h final = at (first_open u k (known_walk k).places) refl c
    where
      at : (o : Option Var) → first_open u k (known_walk k).places ≡ o → first_of (as_lit u o) (least_open n k) ≡ Some l → v l.variable ≡ l.positive
      at None f d = absurd (one_walk k g h (none_open u k (known_walk k).places f))
      at (Some y) f d =
          let same : lit_of u (yes y) ≡ l = same_Some _ _ d in
          subst (λ (m : Lit). v m.variable ≡ m.positive) same (picked_true k y g h (opens_at u k (known_walk k).places y f) (subst (λ (m : Lit). x m.variable ≡ m.positive) (sym same) final))

  -- all is decided in the end
  no_one_waits : (g : Known) → ((y : ℕ) → 1 ≤ y → y ≤ n → is_open (g y) ≡ false) → (ps : List Place) → NoneWaits u g ps
  no_one_waits g h [] = tt
  no_one_waits g h (p ∷ ps) = (at p.pick (open_at u g p) refl, no_one_waits g h ps)
    where
      shut : (c : ℕ) → open_at u g p ≡ Some c → ⊥
      shut c e =
          let f = first_is (is_undecided u g p.interface) 0 (candidates_of u p.interface) c e in
          let on = f.on in
          let q : on ≡ c = (let z = f.is in omega (arith, z)) in
          let item = candidate_below (candidates_of u p.interface) c (subst (λ m. m < length (candidates_of u p.interface)) q f.within) in
          let high = number_high u (Cand p.interface c) item in
          false≢true (sym (h (var_number u (Cand p.interface c)) (number_low u (Cand p.interface c)) (omega (arith, high, room))) ∙ f.passes)

      at : (o w : Option ℕ) → open_at u g p ≡ w → if_none o w ≡ None
      at None None e = refl
      at None (Some c) e = absurd (shut c e)
      at (Some d) w e = refl

  -- along the moves v says what is known
  pub along : (all cs : List Constraint) (k g : Known) (ms : List Move) → Right all cs (walk_picks u req n) k ms → OpenAll k (lits_of (entries_of ms)) → learn k (lits_of (entries_of ms)) ≡ g → ((y : ℕ) → 1 ≤ y → y ≤ n → is_open (g y) ≡ false) → all_true v all ≡ true → Agrees x g → Agrees v k → ⊥
  along all cs k g [] m o end full true_all ends says =
      one_walk k says (subst (Agrees x) (sym end) ends) (no_one_waits k (subst (λ (f : Known). (y : ℕ) → 1 ≤ y → y ≤ n → is_open (f y) ≡ false) (sym end) full) (known_walk k).places)
  along all cs k g (Decide l ∷ ms) m o end full true_all ends says =
      let more : Extends (put k l) g = subst (Extends (put k l)) end (learn_extends (put k l) (lits_of (entries_of ms)) o.1) in
      let h : Extends k g = λ y b z. more y b (put_extends k l o.0 y b z) in
      let final : g l.variable ≡ Some l.positive = more l.variable l.positive (self_case k l (eqb l.variable l.variable) (test_same l.variable)) in
      let truth : v l.variable ≡ l.positive = decide_true k l m.0 says (λ y b z. ends y b (h y b z)) (ends l.variable l.positive final) in
      along all cs (put k l) g ms m.2 o.1 end full true_all ends (put_agrees v k l truth says)
  along all cs k g (Apply d ls ∷ ms) m o end full true_all ends says =
      let next_says : Agrees v (learn k ls) = subst (Sound v) m.0.0 (cited_sound v k all d says true_all) in
      along all cs (learn k ls) g ms m.1 (open_rest k d ls (entries_of ms) o) (sym (known-moves k d ls (entries_of ms)) ∙ end) full true_all ends next_says
