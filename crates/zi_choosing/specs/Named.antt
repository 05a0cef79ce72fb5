-- The choice that selections name: for each interface the candidate of the feed and the id that its selection says.
use Rattle.std.specs.Prelude.{◌≡◌, ℕ, ◌&&◌, Bool, List, map, find, All, bytes_eq, slice_get, Option, IsSome, option_and_then, IsPermutation}
use Rattle.std.specs.List.{position_from}
use Rattle.zi_universe.specs.declared.types.Candidate.{Candidate}
use Rattle.zi_universe.specs.declared.types.Interface.{Interface}
use Rattle.zi_universe.specs.declared.types.Requirement.{Requirement}
use Rattle.zi_choice.specs.Choice.{Choice, number}
use Rattle.zi_sels.specs.declared.types.Selection.{Selection}
use Rattle.zi_sels.specs.declared.types.Selections.{Selections}
use Rattle.zi_sels.specs.Chosen.{AreSelected}

-- a candidate stands in the feed that a selection says, under the id that it says
abbrev pub is_named : Selection → Candidate → Bool
is_named x k = bytes_eq k.standing.feed x.from_feed && bytes_eq k.imp.id x.id

-- the number of the candidate of an interface that a selection names
abbrev pub named_in : Selection → Interface → Option ℕ
named_in x i = position_from (is_named x) 0 i.candidates

-- a selection is a candidate: its interface is one of the universe, and names one there
abbrev pub IsCandidate : List Interface → Selection → Type 0
IsCandidate u x = IsSome (option_and_then (λ n. option_and_then (named_in x) (slice_get u n)) (number u x.interface))

abbrev pub AreCandidates : List Interface → List Selection → Type 0
AreCandidates u items = All (λ x. IsCandidate u x) items

-- what selections choose for an interface: what the one for its address names
abbrev pub named_by : List Selection → Interface → Option ℕ
named_by items i = option_and_then (λ x. named_in x i) (find (λ x. bytes_eq x.interface i.uri) items)

-- their choice
abbrev pub choice_of : List Interface → List Selection → Choice
choice_of u items = map (named_by items) u

-- the root and the command are those that are asked for
pub record AreAskedFor (req : Requirement) (sels : Selections) : Type 0 where
  pub interface : sels.interface ≡ req.interface
  pub command : sels.command ≡ req.command

-- the same selections with their items in another order
pub record AreReordered (sels other : Selections) : Type 0 where
  pub interface : other.interface ≡ sels.interface
  pub command : other.command ≡ sels.command
  pub items : IsPermutation sels.items other.items

-- Selections are those of a choice, once their items stand in byte order of the interface.
abbrev pub AreOwn : List Interface → Requirement → Choice → Selections → Type 0
AreOwn u req s sels = (own : Selections) × AreReordered sels own × AreSelected u req s own
