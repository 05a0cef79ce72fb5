-- While a candidate that is passed over is still undecided, each decision is what an earlier place says.
use Rattle.std.proofs.Common.{◌≡◌, ℕ, zero, suc, ◌+◌, ◌<◌, Bool, true, false, cond, ◌&&◌, List, [], ◌∷◌, ◌++◌, length, map, refl, sym, ap, ◌∙◌, subst, arith, Option, Some, None, inl, inr}
use Rattle.std.specs.Prelude.{slice_get}
use Rattle.std.proofs.lemmas.Bool.{false≢true, and_parts}
use Rattle.std.proofs.lemmas.Option.{slice_get_within, same_Some}
use Rattle.zi_formula.specs.declared.formula.Lit.{Lit}
use Rattle.zi_proof.specs.Known.{Known, says, is_open, true_ones}
use Rattle.zi_proof.proofs.Sound.{Agrees}
use Rattle.zi_sat.specs.Trail.{silent, silent_by, all_silent, all_decided}
use Rattle.zi_sat.specs.Least.{first_of, least_open}
use Rattle.zi_universe.specs.declared.types.Requirement.{Requirement}
use Rattle.zi_universe.specs.declared.types.Candidate.{Candidate}
use Rattle.zi_universe.specs.declared.types.Interface.{Interface}
use Rattle.zi_choice.specs.Choice.{Choice, pick}
use Rattle.zi_choice.specs.Walk.{Place, Walk, Walks}
use Rattle.zi_choice.proofs.ThereLaws.{walk_there, In}
use Rattle.zi_choice.proofs.ApartLaws.{walks_part}
use Rattle.zi_choice.specs.Vars.{Var, Cand, candidates_of, var_number}
use Rattle.zi_build.specs.Clauses.{Rule, One_of, clause, each, keep, two_or_more, one_var, group_of, root_one, of_requirement, of_interface, constraint_of, formula, yes, lit_of}
use Rattle.zi_build.proofs.Meaning.{IsAt}
use Rattle.zi_choice.proofs.Base.{interface_at}
use Rattle.zi_walk.specs.Rule.{is_undecided, is_chosen, so_far, walk_of, if_none, first_open, as_lit, walk_picks, first_where}
use Rattle.zi_walk.proofs.Rules.{FirstAt, first_is, first_none, so_far_picks, NoneWaits, none_open, OpensAt, opens_at}
use Rattle.zi_walk.proofs.Passed.{IsOf, heads, tails, candidate_below, walk_faithful, settled, reaches, stays, the_place, AllFaithful}
use Rattle.zi_feed.specs.IdLaws.{none_some}

-- where a constraint stands in the list
silent_left : (u : List Interface) (k : Known) (a b : List Rule) → all_silent k (map (constraint_of u) (a ++ b)) ≡ true → all_silent k (map (constraint_of u) a) ≡ true
silent_left u k [] b h = refl
silent_left u k (r ∷ a) b h =
    let s = and_parts (silent k (constraint_of u r)) (all_silent k (map (constraint_of u) (a ++ b))) h in
    ap (λ x. x && all_silent k (map (constraint_of u) a)) s.0 ∙ silent_left u k a b s.1

silent_right : (u : List Interface) (k : Known) (a b : List Rule) → all_silent k (map (constraint_of u) (a ++ b)) ≡ true → all_silent k (map (constraint_of u) b) ≡ true
silent_right u k [] b h = h
silent_right u k (r ∷ a) b h = silent_right u k a b (and_parts (silent k (constraint_of u r)) (all_silent k (map (constraint_of u) (a ++ b))) h).1

silent_at : {A : Type 0} (u : List Interface) (k : Known) (n : ℕ) (f : ℕ → A → List Rule) (xs : List A) (i : ℕ) (x : A) → slice_get xs i ≡ Some x → all_silent k (map (constraint_of u) (each n f xs)) ≡ true → all_silent k (map (constraint_of u) (f (n + i) x)) ≡ true
silent_at u k n f [] i x e h = absurd (none_some e)
silent_at u k n f (y ∷ ys) zero x e h =
    let z : n ≡ n + 0 = omega arith in
    subst (λ m. all_silent k (map (constraint_of u) (f m x)) ≡ true) z (subst (λ a. all_silent k (map (constraint_of u) (f n a)) ≡ true) (same_Some _ _ e) (silent_left u k (f n y) (each (suc n) f ys) h))
silent_at u k n f (y ∷ ys) (suc i) x e h =
    let z : suc n + i ≡ n + suc i = omega arith in
    subst (λ m. all_silent k (map (constraint_of u) (f m x)) ≡ true) z (silent_at u k (suc n) f ys i x e (silent_right u k (f n y) (each (suc n) f ys) h))

kept_silent : (u : List Interface) (k : Known) (b : Bool) (r : Rule) → b ≡ true → all_silent k (map (constraint_of u) (keep b r)) ≡ true → silent k (constraint_of u r) ≡ true
kept_silent u k true r e h = (and_parts (silent k (constraint_of u r)) true h).0
kept_silent u k false r e h = absurd (false≢true e)

-- a group with one true variable has no undecided one
pub has_true : (k : Known) (xs : List ℕ) (x : ℕ) → In x xs → says (k x) true ≡ true → true_ones k xs ≡ [] → ⊥
has_true k [] x i t e = i
has_true k (y ∷ xs) x (inl q) t e = at (says (k y) true) (ap (λ z. says (k z) true) q ∙ t) e
  where
    at : (b : Bool) → b ≡ true → cond b (y ∷ true_ones k xs) (true_ones k xs) ≡ [] → ⊥
    at true f e = cc
    at false f e = false≢true f
has_true k (y ∷ xs) x (inr i) t e = at (says (k y) true) e (λ f. has_true k xs x i t f)
  where
    at : (b : Bool) → cond b (y ∷ true_ones k xs) (true_ones k xs) ≡ [] → (true_ones k xs ≡ [] → ⊥) → ⊥
    at true e later = cc
    at false e later = later e

is_decided : (k : Known) (xs : List ℕ) (x : ℕ) → In x xs → all_decided k xs ≡ true → is_open (k x) ≡ true → ⊥
is_decided k [] x i d o = i
is_decided k (y ∷ xs) x (inl q) d o = at (is_open (k y)) (ap (λ z. is_open (k z)) q ∙ o) d
  where
    at : (b : Bool) → b ≡ true → cond b false (all_decided k xs) ≡ true → ⊥
    at true f e = false≢true e
    at false f e = false≢true f
is_decided k (y ∷ xs) x (inr i) d o = at (is_open (k y)) d (λ f. is_decided k xs x i f o)
  where
    at : (b : Bool) → cond b false (all_decided k xs) ≡ true → (all_decided k xs ≡ true → ⊥) → ⊥
    at true e later = false≢true e
    at false e later = later e

group_decided : (k : Known) (xs ts : List ℕ) → silent_by k xs ts ≡ true → (ts ≡ [] → ⊥) → all_decided k xs ≡ true
group_decided k xs [] h n = absurd (n refl)
group_decided k xs (t ∷ []) h n = h
group_decided k xs (t ∷ v ∷ ts) h n = absurd (false≢true h)

in_group : (u : List Interface) (i n : ℕ) (ks : List Candidate) (c : ℕ) → c < length ks → In (var_number u (Cand i (n + c))) (map (var_number u) (each n (one_var i) ks))
in_group u i n [] c l = absurd (omega (arith, l))
in_group u i n (k ∷ ks) zero l = let z : n ≡ n + 0 = omega arith in inl (ap (λ m. var_number u (Cand i m)) z)
in_group u i n (k ∷ ks) (suc c) l =
    let z : suc n + c ≡ n + suc c = omega arith in inr (subst (λ m. In (var_number u (Cand i m)) (map (var_number u) (each (suc n) (one_var i) ks))) z (in_group u i (suc n) ks c (omega (arith, l))))

two_there : (n c e : ℕ) → c < n → e < n → (c ≡ e → ⊥) → two_or_more n ≡ true
two_there zero c e l m d = absurd (omega (arith, l))
two_there (suc zero) c e l m d = absurd (d (omega (arith, l, m)))
two_there (suc (suc n)) c e l m d = refl

-- two candidates of an interface are not one chosen and the other undecided
pub one_decides : (u : List Interface) (req : Requirement) (k : Known) (i c e : ℕ) (x y : Candidate) → all_silent k (formula u req).constraints ≡ true → IsAt u i c x → IsAt u i e y → (c ≡ e → ⊥) → says (k (var_number u (Cand i c))) true ≡ true → is_open (k (var_number u (Cand i e))) ≡ true → ⊥
one_decides u req k i c e x y q at_c at_e d t o =
    let first = clause (each 0 root_one (candidates_of u 0)) in
    let g = each 0 group_of u in
    let m = each 0 (of_interface u) u in
    let s1 = and_parts (silent k (constraint_of u first)) (all_silent k (map (constraint_of u) (of_requirement u req.command ++ (g ++ m)))) q in
    let s2 = silent_left u k g m (silent_right u k (of_requirement u req.command) (g ++ m) s1.1) in
    let z : 0 + i ≡ i = omega arith in
    let r = interface_at u i c x at_c in
    let r2 = interface_at u i e y at_e in
    let same : r2.0 ≡ r.0 = same_Some _ _ (sym r2.1 ∙ r.1) in
    let lc : c < length r.0.candidates = slice_get_within r.0.candidates c x r.2 in
    let le : e < length r.0.candidates = slice_get_within r.0.candidates e y (subst (λ (j : Interface). slice_get j.candidates e ≡ Some y) same r2.2) in
    let s3 = subst (λ j. all_silent k (map (constraint_of u) (group_of j r.0)) ≡ true) z (silent_at u k 0 group_of u i r.0 r.1 s2) in
    let s4 = kept_silent u k (two_or_more (length r.0.candidates)) (One_of (each 0 (one_var i) r.0.candidates)) (two_there (length r.0.candidates) c e lc le d) s3 in
    let xs = map (var_number u) (each 0 (one_var i) r.0.candidates) in
    let zc : 0 + c ≡ c = omega arith in
    let ze : 0 + e ≡ e = omega arith in
    let in_c : In (var_number u (Cand i c)) xs = subst (λ n. In (var_number u (Cand i n)) xs) zc (in_group u i 0 r.0.candidates c lc) in
    let in_e : In (var_number u (Cand i e)) xs = subst (λ n. In (var_number u (Cand i n)) xs) ze (in_group u i 0 r.0.candidates e le) in
    is_decided k xs (var_number u (Cand i e)) in_e (group_decided k xs (true_ones k xs) s4 (has_true k xs (var_number u (Cand i c)) in_c t)) o

abbrev pub IsPassed : Option ℕ → ℕ → Type 0
IsPassed None e = Unit {0}
IsPassed (Some c) e = e < c

-- the decision is what one of the places says
pub record IsSaid (u : List Interface) (l : Lit) (ps : List Place) : Type 0 where
  pub place : ℕ
  pub interface : ℕ
  pub candidate : ℕ
  pub there : slice_get ps place ≡ Some (the_place interface (Some candidate))
  pub is : l ≡ lit_of u (yes (Cand interface candidate))

further_said : (u : List Interface) (l : Lit) (p : Place) (ps : List Place) → IsSaid u l ps → IsSaid u l (p ∷ ps)
further_said u l p ps s = record { place = suc s.place; interface = s.interface; candidate = s.candidate; there = s.there; is = s.is }

module _ (u : List Interface) (req : Requirement) (n : ℕ) (x : ℕ → Bool) (r : Choice) (of_r : IsOf u x r) (b : Walk) (walks_r : Walks u req r b) (pre : List Place) (i : ℕ) (q : Option ℕ) (other : List Place) (is_r : b.places ≡ pre ++ the_place i q ∷ other) (e : ℕ) (item : Candidate) (at_e : IsAt u i e item) (passed : IsPassed q e) where
  abbrev known_walk : Known → Walk
  known_walk k = walk_of u req (so_far u k)

  known_walks : (k : Known) → Walks u req (so_far u k) (known_walk k)
  known_walks k = (walk_there u req (so_far u k)).1

  -- its place isn't settled while it is undecided
  not_settled : (k : Known) → all_silent k (formula u req).constraints ≡ true → is_open (k (var_number u (Cand i e))) ≡ true → (o : Option ℕ) → o ≡ q → o ≡ pick (so_far u k) i → if_none o (first_where (is_undecided u k i) 0 (candidates_of u i)) ≡ None → ⊥
  not_settled k s o None p f w =
      let z : 0 + e ≡ e = omega arith in
      false≢true (sym (subst (λ m. is_open (k (var_number u (Cand i m))) ≡ false) z (first_none (is_undecided u k i) 0 (candidates_of u i) w e (slice_get_within (candidates_of u i) e item at_e))) ∙ o)
  not_settled k s o (Some c) p f w =
      let at = first_is (is_chosen u k i) 0 (candidates_of u i) c (sym (so_far_picks u k i) ∙ sym f) in
      let on = at.on in
      let same : on ≡ c = (let z = at.is in omega (arith, z)) in
      let y = candidate_below (candidates_of u i) c (subst (λ m. m < length (candidates_of u i)) same at.within) in
      let less : e < c = subst (λ p. IsPassed p e) (sym p) passed in
      one_decides u req k i c e y.0 item s y.1 at_e (λ d. omega (arith, d, less)) at.passes o

  place_settled : (k : Known) (ps front : List Place) (behind : List Place) → ps ≡ front ++ the_place i q ∷ behind → AllFaithful (so_far u k) ps → NoneWaits u k ps → all_silent k (formula u req).constraints ≡ true → is_open (k (var_number u (Cand i e))) ≡ true → ⊥
  place_settled k ps front behind is f w s o = at front (subst (λ xs. AllFaithful (so_far u k) xs) is f) (subst (λ xs. NoneWaits u k xs) is w)
    where
      at : (front : List Place) → AllFaithful (so_far u k) (front ++ the_place i q ∷ behind) → NoneWaits u k (front ++ the_place i q ∷ behind) → ⊥
      at [] f w = not_settled k s o q refl f.0 w.0
      at (c ∷ cs) f w = at cs f.1 w.1

  compare : (k : Known) (before : List Place) (j a : ℕ) (more pre' : List Place) → before ++ the_place j (Some a) ∷ more ≡ pre' ++ the_place i q ∷ other → FirstAt (is_undecided u k j) 0 (length (candidates_of u j)) a → (f : AllFaithful (so_far u k) before) → NoneWaits u k before → all_silent k (formula u req).constraints ≡ true → is_open (k (var_number u (Cand i e))) ≡ true → IsSaid u (lit_of u (yes (Cand j a))) pre'
  compare k [] j a more [] h at f w s o =
      let same_i : j ≡ i = ap (λ (p : Place). p.interface) (heads h) in
      let same_q : Some a ≡ q = ap (λ (p : Place). p.pick) (heads h) in
      let less : e < a = subst (λ p. IsPassed p e) (sym same_q) passed in
      let z : 0 + e ≡ e = omega arith in
      let on = at.on in
      let w2 = at.is in
      let shut : is_open (k (var_number u (Cand j e))) ≡ false = subst (λ m. is_open (k (var_number u (Cand j m))) ≡ false) z (at.before e (omega (arith, less, w2))) in
      absurd (false≢true (sym shut ∙ ap (λ m. is_open (k (var_number u (Cand m e)))) same_i ∙ o))
  compare k [] j a more (c ∷ cs) h at f w s o = record { place = 0; interface = j; candidate = a; there = ap (λ p. Some p) (sym (heads h)); is = refl }
  compare k (p ∷ ps) j a more [] h at f w s o =
      absurd (place_settled k (p ∷ ps) [] ps (ap (λ y. y ∷ ps) (heads h)) f w s o)
  compare k (p ∷ ps) j a more (c ∷ cs) h at f w s o =
      further_said u (lit_of u (yes (Cand j a))) c cs (compare k ps j a more cs (tails h) at f.1 w.1 s o)

  -- while it is undecided, each decision is what an earlier place says
  pub decision_said : (k : Known) (l : Lit) → Agrees x k → walk_picks u req n k ≡ Some l → x l.variable ≡ l.positive → all_silent k (formula u req).constraints ≡ true → is_open (k (var_number u (Cand i e))) ≡ true → IsSaid u l pre
  decision_said k l h c final s o = by (first_open u k (known_walk k).places) refl c
    where
      front_faithful : (front : List Place) (rest : List Place) → AllFaithful (so_far u k) (front ++ rest) → AllFaithful (so_far u k) front
      front_faithful [] rest f = tt
      front_faithful (p ∷ ps) rest f = (f.0, front_faithful ps rest f.1)

      picked : (y : Var) → OpensAt u k (known_walk k).places y → x (var_number u y) ≡ true → IsSaid u (lit_of u (yes y)) pre
      picked y w t =
          let f = walk_faithful u req (so_far u k) (known_walk k) (known_walks k) in
          let at_r = reaches u k r (settled u k x r h of_r) (known_walk k) b w.before w.place w.behind (walks_part u req (so_far u k) r (known_walk k) b (known_walks k) walks_r) w.are w.settled f (walk_faithful u req r b walks_r) in
          let first = first_is (is_undecided u k w.place.interface) 0 (candidates_of u w.place.interface) w.candidate w.opens in
          let on = first.on in
          let same_on : on ≡ w.candidate = (let z = first.is in omega (arith, z)) in
          let it = candidate_below (candidates_of u w.place.interface) w.candidate (subst (λ m. m < length (candidates_of u w.place.interface)) same_on first.within) in
          let r_has : pick r w.place.interface ≡ Some w.candidate = of_r.full w.place.interface w.candidate it.0 it.1 (subst (λ z. x (var_number u z) ≡ true) w.is t) in
          let front = front_faithful w.before (w.place ∷ w.behind) (subst (λ ps. AllFaithful (so_far u k) ps) w.are f) in
          subst (λ z. IsSaid u (lit_of u (yes z)) pre) (sym w.is)
          (compare k w.before w.place.interface w.candidate at_r.0 pre (ap (λ p. w.before ++ the_place w.place.interface p ∷ at_r.0) (sym r_has) ∙ sym at_r.1 ∙ is_r) first front w.settled s o)

      by : (v : Option Var) → first_open u k (known_walk k).places ≡ v → first_of (as_lit u v) (least_open n k) ≡ Some l → IsSaid u l pre
      by None f d =
          let w = none_open u k (known_walk k).places f in
          let fa = walk_faithful u req (so_far u k) (known_walk k) (known_walks k) in
          let one : known_walk k ≡ b = stays u k r (settled u k x r h of_r) (known_walk k) b (walks_part u req (so_far u k) r (known_walk k) b (known_walks k) walks_r) w fa in
          absurd (place_settled k (known_walk k).places pre other (ap (λ (v : Walk). v.places) one ∙ is_r) fa w s o)
      by (Some y) f d =
          let same : lit_of u (yes y) ≡ l = same_Some _ _ d in
          subst (λ (m : Lit). IsSaid u m pre) same (picked y (opens_at u k (known_walk k).places y f) (subst (λ (m : Lit). x m.variable ≡ m.positive) (sym same) final))
