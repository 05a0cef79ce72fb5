-- Choices over a universe: which candidate each interface has. Interfaces and candidates go by their numbers, from 0: the
-- root is interface 0, and the candidates of an interface count in the order of rank.
use Rattle.std.specs.Prelude.{◌≡◌, ℕ, List, [], ◌∷◌, ◌++◌, length, map, find, bytes_eq, slice_get, Option, Some, None, IsSome, unwrap_or, option_and_then}
use Rattle.std.specs.List.{position_from}
use Rattle.zi_policy.specs.Platform.{place}
use Rattle.zi_parts.specs.declared.types.Dep.{Dep}
use Rattle.zi_parts.specs.declared.types.Runner.{Runner}
use Rattle.zi_parts.specs.declared.types.Command.{Command}
use Rattle.zi_universe.specs.declared.types.Candidate.{Candidate}
use Rattle.zi_universe.specs.declared.types.Interface.{Interface}
use Rattle.zi_universe.specs.Whole.{uris_of}

-- for each interface the number of a candidate, or none
abbrev pub Choice : Type 0
Choice = List (Option ℕ)

-- what it gives the interface of a number
abbrev pub pick : Choice → ℕ → Option ℕ
pick s i = unwrap_or (slice_get s i) None

-- the candidate of a number of the interface of a number, where there is one
abbrev pub candidate_at : List Interface → ℕ → ℕ → Option Candidate
candidate_at u i c = option_and_then (λ (x : Interface). slice_get x.candidates c) (slice_get u i)

-- It speaks of the interfaces of this universe and of no others, and gives each one of its candidates, or none.
pub record Fits (u : List Interface) (s : Choice) : Type 0 where
  pub each : length s ≡ length u
  pub there : (i c : ℕ) → pick s i ≡ Some c → IsSome (candidate_at u i c)

-- the candidate that is chosen for an interface
abbrev pub chosen : List Interface → Choice → ℕ → Option Candidate
chosen u s i = option_and_then (λ c. candidate_at u i c) (pick s i)

-- the number of the interface of an address, where the universe has it
abbrev pub number : List Interface → List ℕ → Option ℕ
number u uri = place uri (uris_of u)

-- the command of a name that a candidate has
abbrev pub command_of : Candidate → List ℕ → Option Command
command_of c name = find (λ m. bytes_eq m.name name) c.imp.commands

-- the place of the command of a name among those of a candidate
abbrev pub command_place : Candidate → List ℕ → Option ℕ
command_place c name = position_from (λ m. bytes_eq m.name name) 0 c.imp.commands

-- the command of a name that the choice has for an interface
abbrev pub command_at : List Interface → Choice → ℕ → List ℕ → Option Command
command_at u s i name = option_and_then (λ c. command_of c name) (chosen u s i)

-- the dependencies of a candidate, where there is one
abbrev pub deps_of : Option Candidate → List Dep
deps_of None = []
deps_of (Some c) = c.imp.deps

-- the dependencies of a command, and then its runner, which is one too
abbrev pub with_runner : List Dep → Option Runner → List Dep
with_runner ds None = ds
with_runner ds (Some r) = ds ++ r.dep ∷ []

abbrev pub needs_of : Command → List Dep
needs_of m = with_runner m.deps m.runner

-- the first candidate for the root, and none elsewhere
abbrev pub first_alone : List Interface → Choice
first_alone [] = []
first_alone (root ∷ others) = Some 0 ∷ map (λ _. None) others
