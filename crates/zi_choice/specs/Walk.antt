-- The walk of a choice: the interfaces that it comes to from the root, depth first and in the order of the documents, and the
-- commands that it uses on the way.
use Rattle.std.specs.Prelude.{◌≡◌, ℕ, ◌==◌, ◌&&◌, Bool, true, false, if◌then◌else◌, List, [], ◌∷◌, ◌++◌, bytes_eq, Option, Some, None}
use Rattle.std.specs.List.{list_any}
use Rattle.zi_parts.specs.declared.types.Dep.{Dep}
use Rattle.zi_parts.specs.declared.types.Command.{Command}
use Rattle.zi_universe.specs.declared.types.Requirement.{Requirement}
use Rattle.zi_universe.specs.declared.types.Interface.{Interface}
use Rattle.zi_universe.specs.Candidates.{asks}
use Rattle.zi_choice.specs.Choice.{Choice, pick, chosen, number, command_at, deps_of, needs_of}

-- A place: an interface by its number, and what is chosen for it.
pub record Place : Type 0 where
  pub interface : ℕ
  pub pick : Option ℕ

-- A command that is used: the interface's number, and its name.
pub record Use : Type 0 where
  pub interface : ℕ
  pub command : List ℕ

-- The places and the used commands so far, each once, in the order in which they were met.
pub record Walk : Type 0 where
  pub places : List Place
  pub used : List Use

abbrev pub nothing : Walk
nothing = record { places = []; used = [] }

abbrev pub is_listed : Walk → ℕ → Bool
is_listed w i = list_any (λ p. p.interface == i) w.places

abbrev pub is_used : Walk → ℕ → List ℕ → Bool
is_used w i name = list_any (λ x. x.interface == i && bytes_eq x.command name) w.used

-- an interface is appended, with its choice
abbrev pub with_place : Choice → ℕ → Walk → Walk
with_place s i w = record { places = w.places ++ record { interface = i; pick = pick s i } ∷ []; used = w.used }

-- a command is appended
abbrev pub with_use : ℕ → List ℕ → Walk → Walk
with_use i name w = record { places = w.places; used = w.used ++ record { interface = i; command = name } ∷ [] }

-- Where a dependency leads: to its interface. One that only restricts leads nowhere, and so does one on an interface that
-- the universe hasn't, which is no `requires` of a candidate.
abbrev pub leads_to : List Interface → Dep → Option ℕ
leads_to u d = if asks d then number u d.interface else None

mutual
  -- Visiting an interface: where it is listed already nothing happens; else it is appended with its choice, and if it is
  -- chosen the dependencies of its candidate are followed.
  pub data Visits (u : List Interface) (s : Choice) : ℕ → Walk → Walk → Type 0 where
    listed : {i : ℕ} {a : Walk} → is_listed a i ≡ true → Visits u s i a a
    comes : {i : ℕ} {a b : Walk} → is_listed a i ≡ false → Follows u s (deps_of (chosen u s i)) (with_place s i a) b → Visits u s i a b

  -- Needing a command of an interface: one that the choice there lacks does nothing, and so does one that was needed before;
  -- else it is used, and its dependencies and then its runner are followed.
  pub data Needs (u : List Interface) (s : Choice) : ℕ → List ℕ → Walk → Walk → Type 0 where
    lacks : {i : ℕ} {name : List ℕ} {a : Walk} → command_at u s i name ≡ None → Needs u s i name a a
    again : {i : ℕ} {name : List ℕ} {a : Walk} → is_used a i name ≡ true → Needs u s i name a a
    uses : {i : ℕ} {name : List ℕ} {a b : Walk} (m : Command) → command_at u s i name ≡ Some m → is_used a i name ≡ false → Follows u s (needs_of m) (with_use i name a) b → Needs u s i name a b

  -- Needing commands of an interface, one after another.
  pub data NeedsEach (u : List Interface) (s : Choice) : ℕ → List (List ℕ) → Walk → Walk → Type 0 where
    no_more : {i : ℕ} {a : Walk} → NeedsEach u s i [] a a
    one_more : {i : ℕ} {name : List ℕ} {names : List (List ℕ)} {a b c : Walk} → Needs u s i name a b → NeedsEach u s i names b c → NeedsEach u s i (name ∷ names) a c

  -- Following dependencies, one after another: the interface is visited, and then each command that the dependency names is
  -- needed there, which does nothing where none is chosen.
  pub data Follows (u : List Interface) (s : Choice) : List Dep → Walk → Walk → Type 0 where
    ends : {a : Walk} → Follows u s [] a a
    passes : {d : Dep} {ds : List Dep} {a b : Walk} → leads_to u d ≡ None → Follows u s ds a b → Follows u s (d ∷ ds) a b
    goes : {d : Dep} {ds : List Dep} {a b c e : Walk} (i : ℕ) → leads_to u d ≡ Some i → Visits u s i a b → NeedsEach u s i d.commands b c → Follows u s ds c e → Follows u s (d ∷ ds) a e

-- the command that is wanted, where there is one
abbrev pub wanted : Option (List ℕ) → List (List ℕ)
wanted None = []
wanted (Some name) = name ∷ []

-- The walk of a choice: the root is visited, and then the requirement's command is needed there.
pub record Walks (u : List Interface) (req : Requirement) (s : Choice) (w : Walk) : Type 0 where
  pub from_root : Walk
  pub visits : Visits u s 0 nothing from_root
  pub needs : NeedsEach u s 0 (wanted req.command) from_root w
