-- A walk has no more places than the universe has interfaces.
use Rattle.std.proofs.Common.{◌≡◌, ℕ, zero, suc, eqb, ◌<◌, ◌≤◌, false, List, [], ◌∷◌, ◌++◌, length, map, refl, sym, ◌∙◌, subst, arith, Some, eqb-true}
use Rattle.std.specs.Prelude.{slice_get}
use Rattle.std.specs.List.{AllByRecursion, IsDistinct}
use Rattle.std.proofs.lemmas.Bool.{false_from_ne_true}
use Rattle.std.proofs.lemmas.List.{length-map}
use Rattle.std.proofs.lemmas.Map.Steps.{length-le_from_distinct_below}
use Rattle.std.proofs.lemmas.Option.{same_Some}
use Rattle.zi_parts.specs.declared.types.Dep.{Dep}
use Rattle.zi_universe.specs.declared.types.Requirement.{Requirement}
use Rattle.zi_universe.specs.declared.types.Interface.{Interface}
use Rattle.zi_choice.specs.Choice.{Choice, pick}
use Rattle.zi_choice.specs.Walk.{Place, Walk, Walks, Visits, Needs, NeedsEach, Follows, listed, comes, lacks, again, uses, no_more, one_more, ends, passes, goes, leads_to}
use Rattle.zi_choice.proofs.TaskLaws.{number_within}
use Rattle.zi_choice.proofs.Base.{any_found}
use Rattle.zi_build.proofs.MeansValid.{led_where}
use Rattle.zi_walk.proofs.Stops.{AreOnce, walk_once}
use Rattle.zi_feed.specs.IdLaws.{none_some}

abbrev AreIn : ℕ → List Place → Type 0
AreIn n ps = (m : ℕ) (x : Place) → slice_get ps m ≡ Some x → x.interface < n

in_last : (n : ℕ) (ps : List Place) (p : Place) → p.interface < n → AreIn n ps → AreIn n (ps ++ p ∷ [])
in_last n [] p l h zero x e = subst (λ (y : Place). y.interface < n) (same_Some _ _ e) l
in_last n [] p l h (suc m) x e = absurd (none_some e)
in_last n (q ∷ ps) p l h zero x e = h 0 x e
in_last n (q ∷ ps) p l h (suc m) x e = in_last n ps p l (λ k y f. h (suc k) y f) m x e

led_in : (u : List Interface) (d : Dep) (i : ℕ) → leads_to u d ≡ Some i → i < length u
led_in u d i e = number_within u d.interface i (led_where u d i e).1

mutual
  in_visit : {u : List Interface} {s : Choice} {i : ℕ} {a b : Walk} → i < length u → Visits u s i a b → AreIn (length u) a.places → AreIn (length u) b.places
  in_visit l (listed e) h = h
  in_visit {u = u} {s = s} l (comes {i = i} {a = a} e f) h = in_follow f (in_last (length u) a.places (record { interface = i; pick = pick s i }) l h)

  in_need : {u : List Interface} {s : Choice} {i : ℕ} {name : List ℕ} {a b : Walk} → Needs u s i name a b → AreIn (length u) a.places → AreIn (length u) b.places
  in_need (lacks e) h = h
  in_need (again e) h = h
  in_need (uses m e n f) h = in_follow f h

  in_each : {u : List Interface} {s : Choice} {i : ℕ} {names : List (List ℕ)} {a b : Walk} → NeedsEach u s i names a b → AreIn (length u) a.places → AreIn (length u) b.places
  in_each no_more h = h
  in_each (one_more n e) h = in_each e (in_need n h)

  in_follow : {u : List Interface} {s : Choice} {ds : List Dep} {a b : Walk} → Follows u s ds a b → AreIn (length u) a.places → AreIn (length u) b.places
  in_follow ends h = h
  in_follow (passes e f) h = in_follow f h
  in_follow {u = u} (goes {d = d} i e v n f) h = in_follow f (in_each n (in_visit (led_in u d i e) v h))

abbrev numbers : List Place → List ℕ
numbers ps = map (λ (p : Place). p.interface) ps

number_at : (ps : List Place) (n i : ℕ) → slice_get (numbers ps) n ≡ Some i → (p : Place) × (slice_get ps n ≡ Some p) × (p.interface ≡ i)
number_at [] n i e = absurd (none_some e)
number_at (p ∷ ps) zero i e = (p, refl, same_Some _ _ e)
number_at (p ∷ ps) (suc n) i e = number_at ps n i e

apart : (p : Place) (ps : List Place) → ((n : ℕ) (y : Place) → slice_get ps n ≡ Some y → p.interface ≡ y.interface → ⊥) → AllByRecursion (λ j. eqb p.interface j ≡ false) (numbers ps)
apart p [] h = tt
apart p (q ∷ ps) h =
    (false_from_ne_true (eqb p.interface q.interface) (λ e. h 0 q refl (eqb-true p.interface q.interface e)), apart p ps (λ n y f e. h (suc n) y f e))

distinct : (ps : List Place) → AreOnce ps → IsDistinct eqb (numbers ps)
unfolding IsDistinct
distinct [] h = tt
distinct (p ∷ ps) h =
    (apart p ps (λ n y f e. (let z : 0 ≡ suc n = h 0 (suc n) p y refl f e in omega (arith, z))), distinct ps (λ m n x y e f q. (let z : suc m ≡ suc n = h (suc m) (suc n) x y e f q in omega (arith, z))))

pub few_places : (u : List Interface) (req : Requirement) (s : Choice) (w : Walk) → 0 < length u → Walks u req s w → length w.places ≤ length u
few_places u req s w l k =
    let all_in : AreIn (length u) w.places = in_each k.needs (in_visit l k.visits (λ m x e. absurd (none_some e))) in
    subst (λ n. n ≤ length u) (length-map w.places (λ (p : Place). p.interface))
    (length-le_from_distinct_below (numbers w.places) (length u) (distinct w.places (walk_once u req s w k)) (λ q t.
    let f = any_found (eqb q) (numbers w.places) t in
    let p = number_at w.places f.0 f.1 f.2 in
    let e : q ≡ f.1 = eqb-true q f.1 f.3 in
    subst (λ n. n < length u) (p.2 ∙ sym e) (all_in f.0 p.0 p.1)))
