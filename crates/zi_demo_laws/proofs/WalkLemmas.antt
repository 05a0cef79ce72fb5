-- The walk of a choice whose root needs one interface after another, none of which leads on: it comes to each in its turn.
use Rattle.std.proofs.Common.{◌≡◌, ℕ, zero, suc, ◌+◌, ◌<◌, ◌≤◌, ◌⊎◌, inl, inr, true, false, List, [], ◌∷◌, ◌++◌, length, Option, Some, None, refl, sym, ap, subst, ◌∙◌, arith}
use Rattle.std.specs.Prelude.{◌==◌, ◌||◌, ◌↔◌, IsSome, is_some, unwrap_or, All, Contains, if◌then◌else◌}
use Rattle.std.specs.List.{AllByRecursion}
use Rattle.std.proofs.lemmas.Bool.{or_from, ne_eqb}
use Rattle.std.proofs.lemmas.List.Folds.{list_any-append}
use Rattle.std.proofs.lemmas.List.Elements.{All-nil, All-push, All-contains, Contains-push, Contains-append_left}
use Rattle.std.proofs.lemmas.Option.{slice_get_past}
use Rattle.zi_parts.specs.declared.types.Dep.{Dep}
use Rattle.zi_universe.specs.declared.types.Requirement.{Requirement}
use Rattle.zi_universe.specs.declared.types.Interface.{Interface}
use Rattle.zi_universe.specs.Candidates.{asks}
use Rattle.zi_choice.specs.Choice.{Choice, pick, chosen, number, deps_of}
use Rattle.zi_choice.specs.Walk.{Place, Walk, nothing, is_listed, leads_to, Visits, comes, NeedsEach, no_more, Follows, ends, passes, goes, wanted, Walks}
use Rattle.zi_choice.specs.Valid.{IsChosenOn}

abbrev place_at : Choice → ℕ → Place
place_at s i = record { interface = i; pick = pick s i }

-- the places of so many interfaces, in order
abbrev upto : Choice → ℕ → List Place
upto s zero = []
upto s (suc m) = upto s m ++ place_at s m ∷ []

abbrev pub walk_upto : Choice → ℕ → Walk
walk_upto s m = record { places = upto s m; used = [] }

not_listed : (s : Choice) (m i : ℕ) → m ≤ i → is_listed (walk_upto s m) i ≡ false
not_listed s zero i h = refl
not_listed s (suc m) i h =
    list_any-append (λ (p : Place). p.interface == i) (upto s m) (place_at s m ∷ [])
    ∙ or_from (is_listed (walk_upto s m) i) ((m == i) || false) (not_listed s m i (omega arith)) (or_from (m == i) false (ne_eqb m i (λ e. absurd (omega arith))) refl)

-- dependencies that ask for nothing lead nowhere
abbrev pub Stay : List Dep → Type 0
Stay ds = AllByRecursion (λ d. asks d ≡ false) ds

stays : (u : List Interface) (s : Choice) (ds : List Dep) (a : Walk) → Stay ds → Follows u s ds a a
stays u s [] a h = ends
stays u s (d ∷ ds) a h = passes (ap (λ b. if b then number u d.interface else None) h.0) (stays u s ds a h.1)

-- a dependency on the interface of a number, which leads on to none
pub record LeadsTo (u : List Interface) (s : Choice) (i : ℕ) (d : Dep) : Type 0 where
  pub to : leads_to u d ≡ Some i
  pub commands : d.commands ≡ []
  pub stay : Stay (deps_of (chosen u s i))

-- each on the next
abbrev pub LeadFrom : List Interface → Choice → ℕ → List Dep → Type 0
LeadFrom u s i [] = Unit {0}
LeadFrom u s i (d ∷ ds) = LeadsTo u s i d × LeadFrom u s (suc i) ds

abbrev Follow : List Interface → Choice → ℕ → List Dep → Type 0
Follow u s i ds = (e : ℕ) × (e ≡ i + length ds) × Follows u s ds (walk_upto s i) (walk_upto s e)

follows : (u : List Interface) (s : Choice) (i : ℕ) (ds : List Dep) → LeadFrom u s i ds → Follow u s i ds
follows u s i [] h = (i, omega arith, ends)
follows u s i (d ∷ ds) h =
    let r : Follow u s (suc i) ds = follows u s (suc i) ds h.1 in
    let here : Visits u s i (walk_upto s i) (walk_upto s (suc i)) = comes (not_listed s i i (omega arith)) (stays u s (deps_of (chosen u s i)) (walk_upto s (suc i)) h.0.stay) in
    let none : NeedsEach u s i d.commands (walk_upto s (suc i)) (walk_upto s (suc i)) =
    subst (λ names. NeedsEach u s i names (walk_upto s (suc i)) (walk_upto s (suc i))) (sym h.0.commands) no_more in
    let at : r.0 ≡ suc i + length ds = r.1 in
    (r.0, omega (arith, at), goes i h.0.to here none r.2)

-- the whole walk
pub walks : (u : List Interface) (req : Requirement) (s : Choice) → req.command ≡ None → LeadFrom u s 1 (deps_of (chosen u s 0)) → length s ≡ 1 + length (deps_of (chosen u s 0))
    → Walks u req s (walk_upto s (length s))
walks u req s none lead long =
    let r : Follow u s 1 (deps_of (chosen u s 0)) = follows u s 1 (deps_of (chosen u s 0)) lead in
    let end : r.0 ≡ length s = r.1 ∙ sym long in
    let from : Visits u s 0 nothing (walk_upto s r.0) = comes refl r.2 in
    record {
      from_root = walk_upto s (length s);
      visits = subst (λ k. Visits u s 0 nothing (walk_upto s k)) end from;
      needs = subst (λ o. NeedsEach u s 0 (wanted o) (walk_upto s (length s)) (walk_upto s (length s))) (sym none) no_more;
    }

-- What is chosen on it: all that is chosen.

there : (s : Choice) (m i : ℕ) → i < m → Contains (upto s m) (place_at s i)
there s zero i h = absurd (omega arith)
there s (suc m) i h = elim (below_or_at i m h) [
  | inl b ↦ Contains-append_left (upto s m) (place_at s m ∷ []) (place_at s i) (there s m i b)
  | inr e ↦ subst (λ k. Contains (upto s m ++ place_at s m ∷ []) (place_at s k)) (sym e) (Contains-push (upto s m) (place_at s m))
]
  where
    below_or_at : (i m : ℕ) → i < suc m → (i < m) ⊎ (i ≡ m)
    below_or_at i m h = grind arith

abbrev SaysPick : Choice → Place → Type 0
SaysPick s p = p.pick ≡ pick s p.interface

all_true : (s : Choice) (m : ℕ) → All (SaysPick s) (upto s m)
all_true s zero = All-nil (SaysPick s)
all_true s (suc m) = All-push (SaysPick s) (upto s m) (place_at s m) (all_true s m) refl

within : (s : Choice) (i : ℕ) → IsSome (pick s i) → i < length s
within s i h = elim (cases i (length s)) [ inl b ↦ b | inr b ↦ absurd (none (pick s i) (ap (λ (o : Option (Option ℕ)). unwrap_or o None) (slice_get_past s i b)) h) ]
  where
    cases : (i m : ℕ) → (i < m) ⊎ (m ≤ i)
    cases i m = grind arith

    none : (o : Option ℕ) → o ≡ None → is_some o ≡ true → ⊥
    none None e h = cc h
    none (Some c) e h = cc e

pub chosen_exactly : (s : Choice) (i : ℕ) → IsSome (pick s i) ↔ IsChosenOn (upto s (length s)) i
chosen_exactly s i = (λ h. on_walk (pick s i) refl h (there s (length s) i (within s i h)), λ h. off_walk h.0 (All-contains (SaysPick s) (upto s (length s)) (record { interface = i; pick = Some h.0 }) (all_true s (length s)) h.1))
  where
    on_walk : (o : Option ℕ) → pick s i ≡ o → is_some o ≡ true → Contains (upto s (length s)) (place_at s i) → IsChosenOn (upto s (length s)) i
    on_walk None e h c = absurd (cc h)
    on_walk (Some n) e h c = (n, subst (λ (q : Option ℕ). Contains (upto s (length s)) (record { interface = i; pick = q })) e c)

    off_walk : (n : ℕ) → ◌≡◌ {A = Option ℕ} (Some n) (pick s i) → IsSome (pick s i)
    off_walk n e = ap is_some (sym e)
