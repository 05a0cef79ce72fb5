-- Which choice ranks earlier, and which one is the best.
use Rattle.std.specs.Prelude.{◌≡◌, ◌≢◌, ℕ, ◌<◌, List, ◌∷◌, ◌++◌, Option, Some, None}
use Rattle.zi_universe.specs.declared.types.Requirement.{Requirement}
use Rattle.zi_universe.specs.declared.types.Interface.{Interface}
use Rattle.zi_choice.specs.Choice.{Choice}
use Rattle.zi_choice.specs.Walk.{Place, Walk, Walks}
use Rattle.zi_choice.specs.Valid.{IsValid}

-- A candidate is better than none, and than each that it stands before.
abbrev pub IsBetter : Option ℕ → Option ℕ → Type 0
IsBetter None q = ⊥
IsBetter (Some c) None = Unit {0}
IsBetter (Some c) (Some d) = c < d

-- At the first place where two walks differ, the interface is the same, and the choice of the first is better.
pub record GoesBefore (ps qs : List Place) : Type 0 where
  pub common : List Place
  pub interface : ℕ
  pub here : Option ℕ
  pub there : Option ℕ
  pub rest : List Place
  pub other_rest : List Place
  pub is : ps ≡ common ++ record { interface = interface; pick = here } ∷ rest
  pub other_is : qs ≡ common ++ record { interface = interface; pick = there } ∷ other_rest
  pub better : IsBetter here there

-- s ranks earlier than t: its walk goes before t's
pub record RanksEarlier (u : List Interface) (req : Requirement) (s t : Choice) : Type 0 where
  pub walk : Walk
  pub other : Walk
  pub walks : Walks u req s walk
  pub other_walks : Walks u req t other
  pub before : GoesBefore walk.places other.places

-- The best choice is valid, and ranks earlier than every other valid one.
pub record IsBest (u : List Interface) (req : Requirement) (s : Choice) : Type 0 where
  pub valid : IsValid u req s
  pub earlier : (t : Choice) → IsValid u req t → t ≢ s → RanksEarlier u req s t
