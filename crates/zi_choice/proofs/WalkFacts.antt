-- What a walk comes to: it keeps what it met, covers what it was given, and is closed under following. And a choice that
-- agrees with another where its walk comes has the same walk.
use Rattle.std.proofs.Common.{◌≡◌, ℕ, zero, suc, ◌==◌, Bool, true, false, ◌&&◌, List, [], ◌∷◌, ◌++◌, refl, sym, ap, ◌∙◌, subst, Option, Some, None, ◌⊎◌, inl, inr, eqb-true}
use Rattle.std.specs.Prelude.{bytes_eq, slice_get, IsSome}
use Rattle.std.proofs.lemmas.Option.{slice_get_within, slice_get-get_or, get_or_from_slice_get}
use Rattle.std.specs.Cmp.Lexicographic.{bytes_decides}
use Rattle.std.proofs.lemmas.Bool.{and_parts, cases_Bool}
use Rattle.std.proofs.lemmas.Map.Keys.{any_passes_from_place}
use Rattle.zi_parts.specs.declared.types.Dep.{Dep}
use Rattle.zi_parts.specs.declared.types.Command.{Command}
use Rattle.zi_universe.specs.declared.types.Requirement.{Requirement}
use Rattle.zi_universe.specs.declared.types.Interface.{Interface}
use Rattle.zi_choice.specs.Choice.{Choice, pick, chosen, command_at, deps_of, needs_of}
use Rattle.zi_choice.specs.Walk.{Place, Use, Walk, Walks, Visits, Needs, NeedsEach, Follows, listed, comes, lacks, again, uses, no_more, one_more, ends, passes, goes, is_listed, is_used, with_place, with_use, leads_to, wanted, nothing}
use Rattle.zi_choice.specs.Valid.{IsChosenOn}
use Rattle.zi_choice.proofs.WalkLaws.{true_false, not_both, one_value}
use Rattle.zi_choice.proofs.GrowLaws.{any_left, any_of, visit_lists}
use Rattle.zi_choice.proofs.ThereLaws.{In, use_there}
use Rattle.zi_choice.proofs.ApartLaws.{same_chosen, same_command}
use Rattle.zi_choice.proofs.Base.{any_found}
use Rattle.zi_xml.proofs.CharLemmas.{same_self}
use Rattle.zi_feed.specs.IdLaws.{none_some}
use Rattle.zi_text.proofs.ListLaws.{some_is as is_some_of}

-- What a walk may come to: an interface, and a command of it.
pub data Item : Type 0 where
  Visit : ℕ → Item
  Need : ℕ → List ℕ → Item

abbrev pub has : Walk → Item → Bool
has w (Visit i) = is_listed w i
has w (Need i name) = is_used w i name

abbrev pub IsThere : List Interface → Choice → Item → Type 0
IsThere u s (Visit i) = Unit {0}
IsThere u s (Need i name) = (m : Command) × (command_at u s i name ≡ Some m)

-- what a dependency on an interface leads to
abbrev pub AtDep : Dep → ℕ → Item → Type 0
AtDep d j (Visit i) = j ≡ i
AtDep d j (Need i name) = (j ≡ i) × In name d.commands

abbrev pub LeadsBy : List Interface → Dep → Item → Type 0
LeadsBy u d z = (j : ℕ) × (leads_to u d ≡ Some j) × AtDep d j z

abbrev pub Leads : List Interface → List Dep → Item → Type 0
Leads u [] z = ⊥
Leads u (d ∷ ds) z = LeadsBy u d z ⊎ Leads u ds z

abbrev pub deps_after : Option Command → List Dep
deps_after None = []
deps_after (Some m) = needs_of m

-- the dependencies that are followed from an item
abbrev pub after : List Interface → Choice → Item → List Dep
after u s (Visit i) = deps_of (chosen u s i)
after u s (Need i name) = deps_after (command_at u s i name)

-- What every step of a walk keeps holds at its end.
abbrev KeepsPlace : Choice → (Walk → Type 0) → Type 0
KeepsPlace s Q = (i : ℕ) (a : Walk) → Q a → Q (with_place s i a)

abbrev KeepsUse : (Walk → Type 0) → Type 0
KeepsUse Q = (i : ℕ) (name : List ℕ) (a : Walk) → Q a → Q (with_use i name a)

mutual
  pub carry_visit : {u : List Interface} {s : Choice} {i : ℕ} {a b : Walk} (Q : Walk → Type 0) → KeepsPlace s Q → KeepsUse Q → Visits u s i a b → Q a → Q b
  carry_visit Q p q (listed e) h = h
  carry_visit Q p q (comes {i = i} {a = a} e f) h = carry_follow Q p q f (p i a h)

  pub carry_need : {u : List Interface} {s : Choice} {i : ℕ} {name : List ℕ} {a b : Walk} (Q : Walk → Type 0) → KeepsPlace s Q → KeepsUse Q → Needs u s i name a b → Q a → Q b
  carry_need Q p q (lacks e) h = h
  carry_need Q p q (again e) h = h
  carry_need Q p q (uses {i = i} {name = name} {a = a} m e g f) h = carry_follow Q p q f (q i name a h)

  pub carry_each : {u : List Interface} {s : Choice} {i : ℕ} {names : List (List ℕ)} {a b : Walk} (Q : Walk → Type 0) → KeepsPlace s Q → KeepsUse Q → NeedsEach u s i names a b → Q a → Q b
  carry_each Q p q no_more h = h
  carry_each Q p q (one_more n e) h = carry_each Q p q e (carry_need Q p q n h)

  pub carry_follow : {u : List Interface} {s : Choice} {ds : List Dep} {a b : Walk} (Q : Walk → Type 0) → KeepsPlace s Q → KeepsUse Q → Follows u s ds a b → Q a → Q b
  carry_follow Q p q ends h = h
  carry_follow Q p q (passes e f) h = carry_follow Q p q f h
  carry_follow Q p q (goes i e v n f) h = carry_follow Q p q f (carry_each Q p q n (carry_visit Q p q v h))

pub carry_walk : {u : List Interface} {req : Requirement} {s : Choice} {w : Walk} (Q : Walk → Type 0) → KeepsPlace s Q → KeepsUse Q → Walks u req s w → Q nothing → Q w
carry_walk Q p q k h = carry_each Q p q k.needs (carry_visit Q p q k.visits h)

-- What was met stays.
place_keeps : (s : Choice) (z : Item) → KeepsPlace s (λ a. has a z ≡ true)
place_keeps s (Visit j) i a h = any_left (λ (p : Place). p.interface == j) a.places (record { interface = i; pick = pick s i } ∷ []) h
place_keeps s (Need j name) i a h = h

use_keeps : (z : Item) → KeepsUse (λ a. has a z ≡ true)
use_keeps (Visit j) i name a h = h
use_keeps (Need j other) i name a h = any_left (λ (x : Use). x.interface == j && bytes_eq x.command other) a.used (record { interface = i; command = name } ∷ []) h

pub keep_need : {u : List Interface} {s : Choice} {i : ℕ} {name : List ℕ} {a b : Walk} (z : Item) → Needs u s i name a b → has a z ≡ true → has b z ≡ true
keep_need {s = s} z n h = carry_need (λ a. has a z ≡ true) (place_keeps s z) (use_keeps z) n h

pub keep_each : {u : List Interface} {s : Choice} {i : ℕ} {names : List (List ℕ)} {a b : Walk} (z : Item) → NeedsEach u s i names a b → has a z ≡ true → has b z ≡ true
keep_each {s = s} z n h = carry_each (λ a. has a z ≡ true) (place_keeps s z) (use_keeps z) n h

pub keep_follow : {u : List Interface} {s : Choice} {ds : List Dep} {a b : Walk} (z : Item) → Follows u s ds a b → has a z ≡ true → has b z ≡ true
keep_follow {s = s} z f h = carry_follow (λ a. has a z ≡ true) (place_keeps s z) (use_keeps z) f h

-- What one step adds is the item alone.
place_new : (s : Choice) (i : ℕ) (a : Walk) (z : Item) → has (with_place s i a) z ≡ true → (has a z ≡ true) ⊎ (z ≡ Visit i)
place_new s i a (Visit j) h =
    elim (any_of (λ (p : Place). p.interface == j) a.places (record { interface = i; pick = pick s i }) h) [ inl p ↦ inl p | inr q ↦ inr (ap (λ k. Visit k) (sym (eqb-true i j q))) ]
place_new s i a (Need j name) h = inl h

use_new : (i : ℕ) (name : List ℕ) (a : Walk) (z : Item) → has (with_use i name a) z ≡ true → (has a z ≡ true) ⊎ (z ≡ Need i name)
use_new i name a (Visit j) h = inl h
use_new i name a (Need j other) h =
    elim (any_of (λ (x : Use). x.interface == j && bytes_eq x.command other) a.used (record { interface = i; command = name }) h) [
      | inl p ↦ inl p
      | inr q ↦ let b = and_parts (i == j) (bytes_eq name other) q in inr (ap (λ k. Need k other) (sym (eqb-true i j b.0)) ∙ ap (λ n. Need i n) (sym ((bytes_decides name other).0 b.1)))
    ]

-- What is given is covered.
cover_need : {u : List Interface} {s : Choice} {i : ℕ} {name : List ℕ} {a b : Walk} (m : Command) → Needs u s i name a b → command_at u s i name ≡ Some m → is_used b i name ≡ true
cover_need m (lacks e) c = not_both e c
cover_need m (again e) c = e
cover_need m (uses {i = i} {name = name} {a = a} k e g f) c = keep_follow (Need i name) f (use_there i name a)

pub cover_each : {u : List Interface} {s : Choice} {i : ℕ} {names : List (List ℕ)} {a b : Walk} (name : List ℕ) (m : Command) → NeedsEach u s i names a b → In name names → command_at u s i name ≡ Some m → is_used b i name ≡ true
cover_each name m no_more h c = absurd h
cover_each {u} {s} {i} name m (one_more {a = a} {b = b} n e) (inl q) c =
    keep_each (Need i name) e (cover_need m (subst (λ x. Needs u s i x a b) q n) c)
cover_each name m (one_more n e) (inr q) c = cover_each name m e q c

cover_at : {u : List Interface} {s : Choice} {i j : ℕ} {a b c e : Walk} {ds : List Dep} (d : Dep) (z : Item) → Visits u s i a b → NeedsEach u s i d.commands b c → Follows u s ds c e → j ≡ i → AtDep d j z → IsThere u s z → has e z ≡ true
cover_at {i = i} {e = e} d (Visit k) v n f same q t =
    subst (λ x. is_listed e x ≡ true) (sym same ∙ q) (keep_follow (Visit i) f (keep_each (Visit i) n (visit_lists v)))
cover_at {u} {s} {i} {j} {b = b} {c = c} d (Need k name) v n f same q t =
    keep_follow (Need k name) f (cover_each name t.0 (subst (λ x. NeedsEach u s x d.commands b c) (sym same ∙ q.0) n) q.1 t.1)

pub cover_follow : {u : List Interface} {s : Choice} {ds : List Dep} {a b : Walk} (z : Item) → Follows u s ds a b → Leads u ds z → IsThere u s z → has b z ≡ true
cover_follow z ends l t = absurd l
cover_follow z (passes e f) (inl l) t = not_both e l.1
cover_follow z (passes e f) (inr l) t = cover_follow z f l t
cover_follow z (goes {d = d} i e v n f) (inl l) t = cover_at d z v n f (one_value e l.1) l.2 t
cover_follow z (goes i e v n f) (inr l) t = cover_follow z f l t

-- What is met on the way leads only to what is met.
abbrev Closed : List Interface → Choice → Walk → Walk → Type 0
Closed u s a b = (y z : Item) → has a y ≡ false → has b y ≡ true → Leads u (after u s y) z → IsThere u s z → has b z ≡ true

mutual
  close_visit : {u : List Interface} {s : Choice} {i : ℕ} {a b : Walk} → Visits u s i a b → Closed u s a b
  close_visit (listed e) y z f t l h = true_false t f
  close_visit {u} {s} (comes {i = i} {a = a} e g) y z f t l h =
      elim (cases_Bool (has (with_place s i a) y)) [
        | inr new ↦ close_follow g y z new t l h
        | inl old ↦ elim (place_new s i a y old) [ inl p ↦ true_false p f | inr q ↦ cover_follow z g (subst (λ x. Leads u (after u s x) z) q l) h ]
      ]

  close_need : {u : List Interface} {s : Choice} {i : ℕ} {name : List ℕ} {a b : Walk} → Needs u s i name a b → Closed u s a b
  close_need (lacks e) y z f t l h = true_false t f
  close_need (again e) y z f t l h = true_false t f
  close_need {u} {s} (uses {i = i} {name = name} {a = a} m e n g) y z f t l h =
      elim (cases_Bool (has (with_use i name a) y)) [
        | inr new ↦ close_follow g y z new t l h
        | inl old ↦ elim (use_new i name a y old) [
          | inl p ↦ true_false p f
          | inr q ↦ cover_follow z g (subst (λ o. Leads u (deps_after o) z) e (subst (λ x. Leads u (after u s x) z) q l)) h
        ]
      ]

  close_each : {u : List Interface} {s : Choice} {i : ℕ} {names : List (List ℕ)} {a b : Walk} → NeedsEach u s i names a b → Closed u s a b
  close_each no_more y z f t l h = true_false t f
  close_each (one_more {b = b} n e) y z f t l h =
      elim (cases_Bool (has b y)) [ inr new ↦ close_each e y z new t l h | inl old ↦ keep_each z e (close_need n y z f old l h) ]

  close_follow : {u : List Interface} {s : Choice} {ds : List Dep} {a b : Walk} → Follows u s ds a b → Closed u s a b
  close_follow ends y z f t l h = true_false t f
  close_follow (passes e g) y z f t l h = close_follow g y z f t l h
  close_follow (goes {b = b} {c = c} i e v n g) y z f t l h =
      elim (cases_Bool (has c y)) [
        | inr new ↦ close_follow g y z new t l h
        | inl old ↦ keep_follow z g (elim (cases_Bool (has b y)) [ inr fresh ↦ close_each n y z fresh old l h | inl seen ↦ keep_each z n (close_visit v y z f seen l h) ])
      ]

none_met : (y : Item) → has nothing y ≡ false
none_met (Visit i) = refl
none_met (Need i name) = refl

pub closed : (u : List Interface) (req : Requirement) (s : Choice) (w : Walk) → Walks u req s w → (y z : Item) → has w y ≡ true → Leads u (after u s y) z → IsThere u s z → has w z ≡ true
closed u req s w k y z t l h =
    elim (cases_Bool (has k.from_root y)) [ inr new ↦ close_each k.needs y z new t l h | inl old ↦ keep_each z k.needs (close_visit k.visits y z (none_met y) old l h) ]

pub root_listed : (u : List Interface) (req : Requirement) (s : Choice) (w : Walk) → Walks u req s w → is_listed w 0 ≡ true
root_listed u req s w k = keep_each (Visit 0) k.needs (visit_lists k.visits)

-- A property that goes from each item to what it leads to holds of all that is met.
module _ (u : List Interface) (s : Choice) (P : Item → Type 0) (step : (x z : Item) → P x → Leads u (after u s x) z → P z) where
  abbrev AllMet : Walk → Type 0
  AllMet a = (z : Item) → has a z ≡ true → P z

  met_place : (i : ℕ) (a : Walk) → P (Visit i) → AllMet a → AllMet (with_place s i a)
  met_place i a p h z t = elim (place_new s i a z t) [ inl g ↦ h z g | inr q ↦ subst P (sym q) p ]

  met_use : (i : ℕ) (name : List ℕ) (a : Walk) → P (Need i name) → AllMet a → AllMet (with_use i name a)
  met_use i name a p h z t = elim (use_new i name a z t) [ inl g ↦ h z g | inr q ↦ subst P (sym q) p ]

  mutual
    spread_visit : {i : ℕ} {a b : Walk} → Visits u s i a b → P (Visit i) → AllMet a → AllMet b
    spread_visit (listed e) p h = h
    spread_visit (comes {i = i} {a = a} e f) p h = spread_follow f (λ z l. step (Visit i) z p l) (met_place i a p h)

    spread_need : {i : ℕ} {name : List ℕ} {a b : Walk} → Needs u s i name a b → P (Need i name) → AllMet a → AllMet b
    spread_need (lacks e) p h = h
    spread_need (again e) p h = h
    spread_need (uses {i = i} {name = name} {a = a} m e n f) p h =
        spread_follow f (λ z l. step (Need i name) z p (subst (λ o. Leads u (deps_after o) z) (sym e) l)) (met_use i name a p h)

    spread_each : {i : ℕ} {names : List (List ℕ)} {a b : Walk} → NeedsEach u s i names a b → ((name : List ℕ) → In name names → P (Need i name)) → AllMet a → AllMet b
    spread_each no_more p h = h
    spread_each (one_more {name = name} n e) p h = spread_each e (λ x l. p x (inr l)) (spread_need n (p name (inl refl)) h)

    spread_follow : {ds : List Dep} {a b : Walk} → Follows u s ds a b → ((z : Item) → Leads u ds z → P z) → AllMet a → AllMet b
    spread_follow ends p h = h
    spread_follow (passes e f) p h = spread_follow f (λ z l. p z (inr l)) h
    spread_follow (goes i e v n f) p h =
        spread_follow f (λ z l. p z (inr l)) (spread_each n (λ x l. p (Need i x) (inl (i, e, (refl, l)))) (spread_visit v (p (Visit i) (inl (i, e, refl))) h))

  pub spread : (req : Requirement) (w : Walk) → Walks u req s w → P (Visit 0) → ((name : List ℕ) → In name (wanted req.command) → P (Need 0 name)) → (z : Item) → has w z ≡ true → P z
  spread req w k p q = spread_each k.needs q (spread_visit k.visits p (λ z t. true_false t (none_met z)))

-- A choice that agrees where the walk comes has the same walk.
abbrev pub AlikeOn : Choice → Choice → Walk → Type 0
AlikeOn s t w = (j : ℕ) → is_listed w j ≡ true → pick s j ≡ pick t j

abbrev Below : Walk → Walk → Type 0
Below a b = (z : Item) → has a z ≡ true → has b z ≡ true

same_place : (s t : Choice) (i : ℕ) (a : Walk) → pick s i ≡ pick t i → with_place s i a ≡ with_place t i a
same_place s t i a e = ap (λ p. record { places = a.places ++ record { interface = i; pick = p } ∷ []; used = a.used }) e

module _ (u : List Interface) (s t : Choice) (w : Walk) (like : AlikeOn s t w) where
  mutual
    again_visit : {i : ℕ} {a b : Walk} → Visits u s i a b → Below b w → Visits u t i a b
    again_visit (listed e) h = listed e
    again_visit (comes {i = i} {a = a} {b = b} e f) h =
        let here : pick s i ≡ pick t i = like i (h (Visit i) (visit_lists (comes e f))) in
        comes e (subst (λ x. Follows u t (deps_of (chosen u t i)) x b) (same_place s t i a here) (subst (λ o. Follows u t (deps_of o) (with_place s i a) b) (sym (same_chosen u s t i here)) (again_follow f h)))

    again_need : {i : ℕ} {name : List ℕ} {a b : Walk} → Needs u s i name a b → is_listed w i ≡ true → Below b w → Needs u t i name a b
    again_need (lacks {i = i} {name = name} e) here h = lacks (same_command u s t i name (like i here) ∙ e)
    again_need (again e) here h = again e
    again_need (uses {i = i} {name = name} m e n f) here h = uses m (same_command u s t i name (like i here) ∙ e) n (again_follow f h)

    again_each : {i : ℕ} {names : List (List ℕ)} {a b : Walk} → NeedsEach u s i names a b → is_listed w i ≡ true → Below b w → NeedsEach u t i names a b
    again_each no_more here h = no_more
    again_each (one_more n e) here h = one_more (again_need n here (λ z g. h z (keep_each z e g))) (again_each e here h)

    again_follow : {ds : List Dep} {a b : Walk} → Follows u s ds a b → Below b w → Follows u t ds a b
    again_follow ends h = ends
    again_follow (passes e f) h = passes e (again_follow f h)
    again_follow (goes {c = c} i e v n f) h =
        let later : Below c w = λ z g. h z (keep_follow z f g) in
        goes i e (again_visit v (λ z g. later z (keep_each z n g))) (again_each n (later (Visit i) (keep_each (Visit i) n (visit_lists v))) later) (again_follow f h)

  pub same_walk : (req : Requirement) → Walks u req s w → Walks u req t w
  same_walk req k = record {
    from_root = k.from_root;
    visits = again_visit k.visits (λ z g. keep_each z k.needs g);
    needs = again_each k.needs (keep_each (Visit 0) k.needs (visit_lists k.visits)) (λ z g. g);
  }

-- The places of a walk have what is chosen there.
abbrev pub Faithful : Choice → Walk → Type 0
Faithful s w = (i : ℕ) (p : Option ℕ) (n : ℕ) → slice_get w.places n ≡ Some (record { interface = i; pick = p }) → pick s i ≡ p

pub push_case : {A : Type 0} (xs : List A) (y x : A) (n : ℕ) → slice_get (xs ++ y ∷ []) n ≡ Some x → (slice_get xs n ≡ Some x) ⊎ (y ≡ x)
push_case [] y x zero e = inr (some_is e)
  where
    some_is : {A : Type 0} {a b : A} → Some a ≡ Some b → a ≡ b
    some_is e = cc
push_case [] y x (suc n) e = absurd (none_some e)
push_case (z ∷ xs) y x zero e = inl e
push_case (z ∷ xs) y x (suc n) e = push_case xs y x n e

faithful_place : (s : Choice) → KeepsPlace s (Faithful s)
faithful_place s i a h j p n e =
    elim (push_case a.places (record { interface = i; pick = pick s i }) (record { interface = j; pick = p }) n e) [
      | inl f ↦ h j p n f
      | inr q ↦ ap (λ (x : Place). pick s x.interface) (sym q) ∙ ap (λ (x : Place). x.pick) q
    ]

pub faithful : (u : List Interface) (req : Requirement) (s : Choice) (w : Walk) → Walks u req s w → Faithful s w
faithful u req s w k = carry_walk (Faithful s) (faithful_place s) (λ i name a h. h) k (λ i p n e. absurd (none_some e))

-- what is chosen is exactly what is chosen on the walk
pub is_on : (u : List Interface) (req : Requirement) (s : Choice) (a : Walk) → Walks u req s a → (i c : ℕ) → is_listed a i ≡ true → pick s i ≡ Some c → IsChosenOn a.places i
is_on u req s a k i c l p =
    let f = any_found (λ (x : Place). x.interface == i) a.places l in
    let at : f.1 ≡ record { interface = i; pick = Some c } =
    let e : f.1.interface ≡ i = eqb-true f.1.interface i f.3 in
    let here : pick s f.1.interface ≡ f.1.pick = faithful u req s a k f.1.interface f.1.pick f.0 f.2 in
    place_is f.1 i (Some c) e (sym here ∙ ap (λ j. pick s j) e ∙ p) in
    (c, (f.0, slice_get_within a.places f.0 f.1 f.2, get_or_from_slice_get a.places f.0 f.1 (record { interface = i; pick = Some c }) f.2 ∙ at))
  where
    place_is : (x : Place) (i : ℕ) (p : Option ℕ) → x.interface ≡ i → x.pick ≡ p → x ≡ record { interface = i; pick = p }
    place_is x i p e f = ap (λ j. record { interface = j; pick = x.pick }) e ∙ ap (λ q. record { interface = i; pick = q }) f

pub on_is : (u : List Interface) (req : Requirement) (s : Choice) (a : Walk) → Walks u req s a → (i : ℕ) → IsChosenOn a.places i → IsSome (pick s i) × (is_listed a i ≡ true)
on_is u req s a k i on =
    let x : Place = record { interface = i; pick = Some on.0 } in
    let at : slice_get a.places on.1.0 ≡ Some x = slice_get-get_or a.places on.1.0 x on.1.1 ∙ ap (λ y. Some y) on.1.2 in
    (is_some_of (pick s i) on.0 (faithful u req s a k i (Some on.0) on.1.0 at), any_passes_from_place (λ (x : Place). x.interface == i) a.places on.1.0 x at (same_self i))
