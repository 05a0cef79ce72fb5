-- What holds of walks, valid choices and the best one as such.
use Rattle.std.specs.Prelude.{◌≡◌, ◌≢◌, ◌⊎◌, ◌<◌, List, [], length, slice_get, Some, None, All}
use Rattle.zi_universe.specs.declared.types.Requirement.{Requirement}
use Rattle.zi_universe.specs.declared.types.Interface.{Interface}
use Rattle.zi_choice.specs.Choice.{Choice, first_alone}
use Rattle.zi_choice.specs.Walk.{Walk, Walks}
use Rattle.zi_choice.specs.Stops.{AreStops, walk_of_stops}
use Rattle.zi_choice.specs.declared.traced.Stop.{Stop}
use Rattle.zi_choice.specs.Valid.{IsValid}
use Rattle.zi_choice.specs.Best.{RanksEarlier, IsBest}

-- a choice has one walk at most
abbrev pub WalkIsOne : Type 0
WalkIsOne = (u : List Interface) (req : Requirement) (s : Choice) (v w : Walk) → Walks u req s v → Walks u req s w → v ≡ w

-- a choice has a walk
abbrev pub WalkIsThere : Type 0
WalkIsThere = (u : List Interface) (req : Requirement) (s : Choice) → (w : Walk) × Walks u req s w

-- a walk has stops, which told apart are the walk
abbrev pub StopsAreThere : Type 0
StopsAreThere = (u : List Interface) (req : Requirement) (s : Choice) (w : Walk) → Walks u req s w → (xs : List Stop) × AreStops u req s xs × (walk_of_stops s xs ≡ w)

-- a choice has no others
abbrev pub StopsAreOne : Type 0
StopsAreOne = (u : List Interface) (req : Requirement) (s : Choice) (xs ys : List Stop) → AreStops u req s xs → AreStops u req s ys → xs ≡ ys

-- "ranks earlier" is a strict order
pub record IsStrict (u : List Interface) (req : Requirement) : Type 0 where
  pub never_itself : (s : Choice) → ¬ RanksEarlier u req s s
  pub chain : (s t r : Choice) → RanksEarlier u req s t → RanksEarlier u req t r → RanksEarlier u req s r

abbrev pub EarlierIsStrict : Type 0
EarlierIsStrict = (u : List Interface) (req : Requirement) → IsStrict u req

-- of two different valid choices one ranks earlier than the other
abbrev pub OneRanksEarlier : Type 0
OneRanksEarlier =
    (u : List Interface) (req : Requirement) (s t : Choice) → IsValid u req s → IsValid u req t → s ≢ t → RanksEarlier u req s t ⊎ RanksEarlier u req t s

-- at most one choice is best
abbrev pub BestIsOne : Type 0
BestIsOne = (u : List Interface) (req : Requirement) (s t : Choice) → IsBest u req s → IsBest u req t → s ≡ t

-- where any choice is valid, one is the best
abbrev pub BestIsThere : Type 0
BestIsThere =
    (u : List Interface) (req : Requirement) (s : Choice) → IsValid u req s → (t : Choice) × IsBest u req t

-- Where no command is wanted, and no candidate of the root has a dependency of its own, the root's first candidate alone is
-- the best choice.
abbrev pub FirstAloneIsBest : Type 0
FirstAloneIsBest =
    (u : List Interface) (req : Requirement) (root : Interface) → slice_get u 0 ≡ Some root → req.command ≡ None → All (λ c. c.imp.deps ≡ []) root.candidates → 0 < length root.candidates → IsBest u req (first_alone u)

-- where the root has no candidate, no choice is valid
abbrev pub NoRootNoChoice : Type 0
NoRootNoChoice =
    (u : List Interface) (req : Requirement) (root : Interface) (s : Choice) → slice_get u 0 ≡ Some root → length root.candidates ≡ 0 → ¬ IsValid u req s
