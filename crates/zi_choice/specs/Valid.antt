-- When a choice is valid: what is chosen works together, and nothing is chosen that isn't asked for.
use Rattle.std.specs.Prelude.{◌≡◌, ℕ, true, List, Option, Some, None, IsSome, IfSome, IsSomeAnd, All, Contains, option_and_then, ◌↔◌}
use Rattle.std.specs.List.{list_all}
use Rattle.zi_version.specs.Range.{admits}
use Rattle.zi_policy.specs.declared.types.Arch.{Arch}
use Rattle.zi_policy.specs.declared.types.Width.{Width}
use Rattle.zi_policy.specs.declared.types.Width.TheVariants.{Bits32, Bits64}
use Rattle.zi_policy.specs.Platform.{any, group_of}
use Rattle.zi_parts.specs.declared.types.Dep.{Dep}
use Rattle.zi_parts.specs.declared.types.DepKind.TheVariants.{Essential}
use Rattle.zi_universe.specs.declared.types.Requirement.{Requirement}
use Rattle.zi_universe.specs.declared.types.Candidate.{Candidate}
use Rattle.zi_universe.specs.declared.types.Interface.{Interface}
use Rattle.zi_universe.specs.Candidates.{asks}
use Rattle.zi_choice.specs.Choice.{Choice, Fits, pick, chosen, number, command_of, command_at, needs_of}
use Rattle.zi_choice.specs.Walk.{Place, Use, Walk, Walks}

-- a candidate has the command of a name
abbrev pub Has : Candidate → List ℕ → Type 0
Has c name = IsSome (command_of c name)

-- A candidate suits a dependency: each of its ranges admits the version, and, unless it only restricts, each command that it
-- names is there.
pub record Suits (d : Dep) (c : Candidate) : Type 0 where
  pub admitted : list_all (λ r. admits r c.imp.version) d.ranges ≡ true
  pub commands : asks d ≡ true → All (λ name. Has c name) d.commands

-- the candidate that is chosen for the interface that a dependency is on, where there is one
abbrev pub target : List Interface → Choice → Dep → Option Candidate
target u s d = option_and_then (λ i. chosen u s i) (number u d.interface)

-- A dependency is met: an essential one has its interface chosen, and where that is chosen the candidate suits. So an
-- essential one on an interface that the universe hasn't is never met, and any other one on such an interface asks nothing.
pub record IsMet (u : List Interface) (s : Choice) (d : Dep) : Type 0 where
  pub there : d.kind ≡ Essential → IsSome (target u s d)
  pub suits : IfSome (target u s d) (λ c. Suits d c)

abbrev pub AreMet : List Interface → Choice → List Dep → Type 0
AreMet u s ds = All (λ d. IsMet u s d) ds

-- the machine of a platform; any where there is none
abbrev pub machine_of : Option Arch → List ℕ
machine_of None = any
machine_of (Some a) = a.machine

-- the bit group of a candidate
abbrev pub group : Candidate → Width
group c = group_of (machine_of c.imp.arch)

-- a place of a walk has the interface, and a candidate is chosen there
abbrev pub IsChosenOn : List Place → ℕ → Type 0
IsChosenOn ps i = (c : ℕ) × Contains ps (record { interface = i; pick = Some c })

-- A valid choice, and why it is:
-- it fits, so every choice is a candidate; the root is chosen, and has the requirement's command; the dependencies of each chosen
-- candidate and of each used command are met; no two candidates are of different bit groups; and the interfaces that are chosen
-- are exactly the chosen ones of the walk.
pub record IsValid (u : List Interface) (req : Requirement) (s : Choice) : Type 0 where
  pub fits : Fits u s
  pub root : IsSomeAnd (chosen u s 0) (λ c. IfSome req.command (λ name. Has c name))
  pub met : (i : ℕ) → IfSome (chosen u s i) (λ c. AreMet u s c.imp.deps)
  pub walk : Walk
  pub walks : Walks u req s walk
  pub used_met : All (λ (x : Use). IfSome (command_at u s x.interface x.command) (λ m. AreMet u s (needs_of m))) walk.used
  pub one_group : (i j : ℕ) (c d : Candidate) → chosen u s i ≡ Some c → chosen u s j ≡ Some d → group c ≡ Bits32 → ¬ (group d ≡ Bits64)
  pub exactly : (i : ℕ) → IsSome (pick s i) ↔ IsChosenOn walk.places i

-- there is no valid choice
abbrev pub NoneIsValid : List Interface → Requirement → Type 0
NoneIsValid u req = (s : Choice) → ¬ IsValid u req s
