-- What the constraints say of choices.
use Rattle.std.specs.Prelude.{◌≡◌, ℕ, ◌+◌, ◌≤◌, Bool, true, List, length, Some, IsSome, ◌↔◌}
use Rattle.zi_universe.specs.declared.types.Requirement.{Requirement}
use Rattle.zi_universe.specs.declared.types.Interface.{Interface}
use Rattle.zi_choice.specs.Choice.{Choice, Fits, pick, candidate_at}
use Rattle.zi_choice.specs.Walk.{Walk, Walks}
use Rattle.zi_choice.specs.Valid.{IsValid, NoneIsValid, IsChosenOn}
use Rattle.zi_formula.specs.Truth.{Models}
use Rattle.zi_formula.specs.Form.{Within, OnceAll}
use Rattle.zi_choice.specs.Vars.{Cand, var_number}
use Rattle.zi_build.specs.Clauses.{formula, literals}

-- a candidate is chosen exactly where its variable is true
pub record IsCandidatePart (u : List Interface) (v : ℕ → Bool) (s : Choice) : Type 0 where
  pub fits : Fits u s
  pub are_true : (i c : ℕ) → pick s i ≡ Some c → v (var_number u (Cand i c)) ≡ true
  pub are_chosen : (i c : ℕ) → IsSome (candidate_at u i c) → v (var_number u (Cand i c)) ≡ true → pick s i ≡ Some c

-- it is the candidate part of a model
abbrev pub IsOfModel : List Interface → Requirement → Choice → Type 0
IsOfModel u req s = (v : ℕ → Bool) × IsCandidatePart u v s × Models v (formula u req)

-- what is chosen is exactly what is chosen on its walk
abbrev pub IsOnWalk : List Interface → Requirement → Choice → Type 0
IsOnWalk u req s = (w : Walk) × Walks u req s w × ((i : ℕ) → IsSome (pick s i) ↔ IsChosenOn w.places i)

-- A choice is valid exactly where it is the candidate part of a model, and its chosen interfaces are exactly the chosen ones
-- of its walk.
abbrev pub ValidIsModel : Type 0
ValidIsModel =
    (u : List Interface) (req : Requirement) (s : Choice) → IsValid u req s ↔ IsOfModel u req s × IsOnWalk u req s

-- No choice is valid exactly where there is no model.
abbrev pub NoneIsNoModel : Type 0
NoneIsNoModel =
    (u : List Interface) (req : Requirement) → NoneIsValid u req ↔ ((v : ℕ → Bool) → ¬ Models v (formula u req))

-- A model holds a valid choice: some of its true candidates.
abbrev pub ModelHoldsValid : Type 0
ModelHoldsValid =
    (u : List Interface) (req : Requirement) (v : ℕ → Bool) → Models v (formula u req) → (s : Choice) × IsValid u req s × ((i c : ℕ) → pick s i ≡ Some c → v (var_number u (Cand i c)) ≡ true)

-- The formula has its variables from 1 on, no clause has a literal twice and no group a variable twice, and the constraints
-- are hardly more than their literals.
abbrev pub IsFormed : Type 0
IsFormed =
    (u : List Interface) (req : Requirement) → Within (formula u req) × OnceAll (formula u req).constraints × (length (formula u req).constraints ≤ 1 + literals (formula u req).constraints)
