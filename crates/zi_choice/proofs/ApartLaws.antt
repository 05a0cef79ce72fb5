-- Where the walks of two choices part, and that one of two valid choices ranks earlier.
use Rattle.std.proofs.Common.{◌≡◌, ◌≢◌, ℕ, zero, suc, ◌==◌, ◌<◌, Bool, true, false, ◌||◌, List, [], ◌∷◌, ◌++◌, refl, sym, subst, ap, ◌∙◌, arith, append_assoc, eqb-true, eq-eqb, Option, Some, None, ◌⊎◌, inl, inr}
use Rattle.std.specs.Prelude.{IsSome, option_and_then, slice_index_or, length}
use Rattle.std.specs.List.{list_any}
use Rattle.std.proofs.lemmas.Bool.{false≢true}
use Rattle.zi_parts.specs.declared.types.Dep.{Dep}
use Rattle.zi_universe.specs.declared.types.Requirement.{Requirement}
use Rattle.zi_universe.specs.declared.types.Interface.{Interface}
use Rattle.zi_choice.specs.Choice.{Choice, pick, chosen, candidate_at, command_of, command_at, deps_of, needs_of}
use Rattle.zi_choice.specs.Walk.{Place, Walk, Walks, Visits, Needs, NeedsEach, Follows, listed, comes, lacks, again, uses, no_more, one_more, ends, passes, goes, is_listed, with_place, with_use, wanted, nothing}
use Rattle.zi_choice.specs.Valid.{IsValid, IsChosenOn}
use Rattle.zi_choice.specs.Best.{IsBetter, GoesBefore, RanksEarlier}
use Rattle.zi_choice.specs.Laws.{OneRanksEarlier}
use Rattle.zi_choice.proofs.ChoiceLaws.{same_pick, same_list}
use Rattle.zi_choice.proofs.GrowLaws.{any_of, Grows, grow_each, grow_follow, visit_lists}
use Rattle.zi_choice.proofs.WalkLaws.{true_false, not_both, one_value}

-- They choose alike where the walk was.
pub Alike : Choice → Choice → Walk → Type 0
Alike s t a = (j : ℕ) → is_listed a j ≡ true → pick s j ≡ pick t j

-- The places are the same up to one of the same interface, where the choices differ.
pub record Parts (s t : Choice) (ps qs : List Place) : Type 0 where
  pub common : List Place
  pub interface : ℕ
  pub rest : List Place
  pub other_rest : List Place
  pub is : ps ≡ common ++ record { interface = interface; pick = pick s interface } ∷ rest
  pub other_is : qs ≡ common ++ record { interface = interface; pick = pick t interface } ∷ other_rest
  pub differ : pick s interface ≢ pick t interface

-- the walks go on together, or they have parted
pub data Goes (s t : Choice) (b c : Walk) : Type 0 where
  together : b ≡ c → Alike s t b → Goes s t b c
  parted : Parts s t b.places c.places → Goes s t b c

behind : (common : List Place) (p : Place) (rest more ps : List Place) → ps ≡ common ++ p ∷ rest → ps ++ more ≡ common ++ p ∷ (rest ++ more)
behind common p rest more ps e = ap (λ xs. xs ++ more) e ∙ append_assoc common (p ∷ rest) more

-- once parted, they stay so
part_on : (s t : Choice) (a b c d : Walk) → Parts s t a.places b.places → Grows a c → Grows b d → Goes s t c d
part_on s t a b c d p g h = parted (record {
  common = p.common;
  interface = p.interface;
  rest = p.rest ++ g.more;
  other_rest = p.other_rest ++ h.more;
  is = g.is ∙ behind p.common (record { interface = p.interface; pick = pick s p.interface }) p.rest g.more a.places p.is;
  other_is = h.is ∙ behind p.common (record { interface = p.interface; pick = pick t p.interface }) p.other_rest h.more b.places p.other_is;
  differ = p.differ;
})

part_here : (s t : Choice) (i : ℕ) (a b c : Walk) → pick s i ≢ pick t i → Grows (with_place s i a) b → Grows (with_place t i a) c → Goes s t b c
part_here s t i a b c apart g h = parted (record {
  common = a.places;
  interface = i;
  rest = g.more;
  other_rest = h.more;
  is = g.is ∙ append_assoc a.places (record { interface = i; pick = pick s i } ∷ []) g.more;
  other_is = h.is ∙ append_assoc a.places (record { interface = i; pick = pick t i } ∷ []) h.more;
  differ = apart;
})

same_walk : (s t : Choice) (i : ℕ) (a : Walk) → pick s i ≡ pick t i → with_place t i a ≡ with_place s i a
same_walk s t i a e = ap (λ p. record { places = a.places ++ record { interface = i; pick = p } ∷ []; used = a.used }) (sym e)

pub same_chosen : (u : List Interface) (s t : Choice) (i : ℕ) → pick s i ≡ pick t i → chosen u t i ≡ chosen u s i
same_chosen u s t i e = ap (λ p. option_and_then (λ c. candidate_at u i c) p) (sym e)

pub same_command : (u : List Interface) (s t : Choice) (i : ℕ) (name : List ℕ) → pick s i ≡ pick t i → command_at u t i name ≡ command_at u s i name
same_command u s t i name e = ap (λ o. option_and_then (λ c. command_of c name) o) (same_chosen u s t i e)

alike_with : (s t : Choice) (i : ℕ) (a : Walk) → Alike s t a → pick s i ≡ pick t i → Alike s t (with_place s i a)
unfolding Alike
alike_with s t i a like e j h = at (any_of (λ (p : Place). p.interface == j) a.places (record { interface = i; pick = pick s i }) h)
  where
    at : (is_listed a j ≡ true) ⊎ ((i == j) ≡ true) → pick s j ≡ pick t j
    at (inl g) = like j g
    at (inr g) = subst (λ k. pick s k ≡ pick t k) (eqb-true i j g) e

alike_use : (s t : Choice) (i : ℕ) (name : List ℕ) (a : Walk) → Alike s t a → Alike s t (with_use i name a)
unfolding Alike
alike_use s t i name a like = like

at_listed : (s t : Choice) (a : Walk) (i : ℕ) → Alike s t a → is_listed a i ≡ true → pick s i ≡ pick t i
unfolding Alike
at_listed s t a i like e = like i e

-- the second's following from a place that both list alike, as if it were the first's
moved : (u : List Interface) (s t : Choice) (i : ℕ) (a c : Walk) → pick s i ≡ pick t i → Follows u t (deps_of (chosen u t i)) (with_place t i a) c → Follows u t (deps_of (chosen u s i)) (with_place s i a) c
moved u s t i a c e f =
    subst (λ w. Follows u t (deps_of (chosen u s i)) w c) (same_walk s t i a e) (subst (λ o. Follows u t (deps_of o) (with_place t i a) c) (same_chosen u s t i e) f)

visit_by : (u : List Interface) (s t : Choice) (i : ℕ) (a b c : Walk) → Grows (with_place s i a) b → Grows (with_place t i a) c → (pick s i ≡ pick t i → Goes s t b c) → Goes s t b c
visit_by u s t i a b c g h on = at (same_pick (pick s i) (pick t i))
  where
    at : (pick s i ≡ pick t i) ⊎ (pick s i ≢ pick t i) → Goes s t b c
    at (inl e) = on e
    at (inr apart) = part_here s t i a b c apart g h

-- what comes behind: on together, or parted as before
goes_by : (s t : Choice) (a b c d : Walk) → Goes s t a b → Grows a c → Grows b d → (a ≡ b → Alike s t a → Goes s t c d) → Goes s t c d
goes_by s t a b c d (together e like) g h on = on e like
goes_by s t a b c d (parted p) g h on = part_on s t a b c d p g h

mutual
  part_visit : {u : List Interface} {s t : Choice} {i : ℕ} {a b c : Walk} → Alike s t a → Visits u s i a b → Visits u t i a c → Goes s t b c
  part_visit like (listed e) (listed f) = together refl like
  part_visit like (listed e) (comes f g) = true_false e f
  part_visit like (comes e g) (listed f) = true_false f e
  part_visit {u} {s} {t} like (comes {i = i} {a = a} {b = b} e g) (comes {b = c} f h) =
      visit_by u s t i a b c (grow_follow g) (grow_follow h) (λ same. part_follow (alike_with s t i a like same) g (moved u s t i a c same h))

  part_need : {u : List Interface} {s t : Choice} {i : ℕ} {name : List ℕ} {a b c : Walk} → Alike s t a → pick s i ≡ pick t i → Needs u s i name a b → Needs u t i name a c → Goes s t b c
  part_need like same (lacks e) (lacks f) = together refl like
  part_need like same (lacks e) (again f) = together refl like
  part_need {u} {s} {t} like same (lacks {i = i} {name = name} e) (uses m f g h) = not_both e (sym (same_command u s t i name same) ∙ f)
  part_need like same (again e) (lacks f) = together refl like
  part_need like same (again e) (again f) = together refl like
  part_need like same (again e) (uses m f g h) = true_false e g
  part_need {u} {s} {t} like same (uses {i = i} {name = name} m e g h) (lacks f) = not_both f (same_command u s t i name same ∙ e)
  part_need like same (uses m e g h) (again f) = true_false f g
  part_need {u} {s} {t} like same (uses {i = i} {name = name} {a = a} m e g h) (uses {b = c} n f k l) =
      part_follow (alike_use s t i name a like) h (subst (λ x. Follows u t (needs_of x) (with_use i name a) c) (one_value e (sym (same_command u s t i name same) ∙ f)) l)

  part_each : {u : List Interface} {s t : Choice} {i : ℕ} {names : List (List ℕ)} {a b c : Walk} → Alike s t a → pick s i ≡ pick t i → NeedsEach u s i names a b → NeedsEach u t i names a c → Goes s t b c
  part_each like same no_more no_more = together refl like
  part_each {u} {s} {t} like same (one_more {i = i} {names = names} {b = b} {c = c} n e) (one_more {b = b2} {c = c2} m f) =
      goes_by s t b b2 c c2 (part_need like same n m) (grow_each e) (grow_each f) (λ at on. part_each on same e (subst (λ w. NeedsEach u t i names w c2) (sym at) f))

  part_follow : {u : List Interface} {s t : Choice} {ds : List Dep} {a b c : Walk} → Alike s t a → Follows u s ds a b → Follows u t ds a c → Goes s t b c
  part_follow like ends ends = together refl like
  part_follow like (passes e f) (passes g h) = part_follow like f h
  part_follow like (passes e f) (goes i g v n h) = not_both e g
  part_follow like (goes i e v n f) (passes g h) = not_both g e
  part_follow {u} {s} {t} like (goes {d = d} {ds = ds} {a = a} {b = b} {c = c} {e = last} i e v n f) (goes {b = b2} {c = c2} {e = last2} j g v2 n2 f2) =
      let here : j ≡ i = one_value e g in
      let came : Visits u t i a b2 = subst (λ k. Visits u t k a b2) here v2 in
      let needs : NeedsEach u t i d.commands b2 c2 = subst (λ k. NeedsEach u t k d.commands b2 c2) here n2 in
      goes_by s t c c2 last last2
      (goes_by s t b b2 c c2 (part_visit like v came) (grow_each n) (grow_each n2) (λ at on. part_each on (at_listed s t b i on (visit_lists v)) n (subst (λ w. NeedsEach u t i d.commands w c2) (sym at) needs)))
      (grow_follow f) (grow_follow f2) (λ at on. part_follow on f (subst (λ w. Follows u t ds w last2) (sym at) f2))

nowhere : (s t : Choice) → Alike s t nothing
unfolding Alike
nowhere s t j e = absurd (false≢true e)

-- the walks of two choices are the same, or they part
pub walks_part : (u : List Interface) (req : Requirement) (s t : Choice) (v w : Walk) → Walks u req s v → Walks u req t w → Goes s t v w
walks_part u req s t v w p q =
    goes_by s t p.from_root q.from_root v w (part_visit (nowhere s t) p.visits q.visits) (grow_each p.needs) (grow_each q.needs)
    (λ at on. part_each on (at_listed s t p.from_root 0 on (visit_lists p.visits)) p.needs (subst (λ m. NeedsEach u t 0 (wanted req.command) m w) (sym at) q.needs))

-- Of two different choices at a place one is better.
one_less : (c d : ℕ) → c ≢ d → (c < d) ⊎ (d < c)
one_less zero zero apart = absurd (apart refl)
one_less zero (suc d) apart = inl (omega arith)
one_less (suc c) zero apart = inr (omega arith)
one_less (suc c) (suc d) apart = elim (one_less c d (λ e. apart (ap suc e))) [ inl l ↦ inl (omega (arith, l)) | inr l ↦ inr (omega (arith, l)) ]

one_better : (p q : Option ℕ) → p ≢ q → IsBetter p q ⊎ IsBetter q p
one_better None None apart = absurd (apart refl)
one_better None (Some d) apart = inr tt
one_better (Some c) None apart = inl tt
one_better (Some c) (Some d) apart = elim (one_less c d (λ e. apart (ap (λ x. Some x) e))) [ inl l ↦ inl l | inr l ↦ inr l ]

one_before : (s t : Choice) (ps qs : List Place) → Parts s t ps qs → GoesBefore ps qs ⊎ GoesBefore qs ps
one_before s t ps qs p =
    elim (one_better (pick s p.interface) (pick t p.interface) p.differ) [
      | inl h ↦ inl (record { common = p.common; interface = p.interface; here = pick s p.interface; there = pick t p.interface; rest = p.rest; other_rest = p.other_rest; is = p.is; other_is = p.other_is; better = h })
      | inr h ↦ inr (record { common = p.common; interface = p.interface; here = pick t p.interface; there = pick s p.interface; rest = p.other_rest; other_rest = p.rest; is = p.other_is; other_is = p.is; better = h })
    ]

-- A valid choice has none where its walk doesn't come.
or_true : (b : Bool) {c : Bool} → c ≡ true → (b || c) ≡ true
or_true true e = refl
or_true false e = e

is_on : (ps : List Place) (i c k : ℕ) → k < length ps → slice_index_or ps k (record { interface = i; pick = Some c }) ≡ record { interface = i; pick = Some c } → list_any (λ (p : Place). p.interface == i) ps ≡ true
is_on [] i c k lt e = absurd (omega (arith, lt))
is_on (p ∷ ps) i c zero lt e = ap (λ b. b || list_any (λ (p : Place). p.interface == i) ps) (eq-eqb p.interface i (ap (λ (q : Place). q.interface) e))
is_on (p ∷ ps) i c (suc k) lt e = or_true (p.interface == i) (is_on ps i c k (omega (arith, lt)) e)

none_off : (u : List Interface) (req : Requirement) (s : Choice) (v : IsValid u req s) (i : ℕ) → is_listed v.walk i ≡ false → pick s i ≡ None
none_off u req s v i off = at (pick s i) refl
  where
    at : (p : Option ℕ) → pick s i ≡ p → p ≡ None
    at None e = refl
    at (Some c) e =
        let on : IsChosenOn v.walk.places i = (v.exactly i).0 (subst (λ o. IsSome o) (sym e) refl) in
        true_false (is_on v.walk.places i on.0 on.1.0 on.1.1 on.1.2) off

one_choice : (u : List Interface) (req : Requirement) (s t : Choice) (v : IsValid u req s) (w : IsValid u req t) → v.walk ≡ w.walk → Alike s t v.walk → s ≡ t
one_choice u req s t v w same like = same_list s t (v.fits.each ∙ sym w.fits.each) (λ i. at i (is_listed v.walk i) refl)
  where
    at : (i : ℕ) (b : Bool) → is_listed v.walk i ≡ b → pick s i ≡ pick t i
    at i true e = at_listed s t v.walk i like e
    at i false e = none_off u req s v i e ∙ sym (none_off u req t w i (subst (λ a. is_listed a i ≡ false) same e))

pub one_earlier : OneRanksEarlier
one_earlier u req s t v w apart = at (walks_part u req s t v.walk w.walk v.walks w.walks)
  where
    at : Goes s t v.walk w.walk → RanksEarlier u req s t ⊎ RanksEarlier u req t s
    at (together same like) = absurd (apart (one_choice u req s t v w same like))
    at (parted p) = elim (one_before s t v.walk.places w.walk.places p) [
      | inl h ↦ inl (record { walk = v.walk; other = w.walk; walks = v.walks; other_walks = w.walks; before = h })
      | inr h ↦ inr (record { walk = w.walk; other = v.walk; walks = w.walks; other_walks = v.walks; before = h })
    ]
