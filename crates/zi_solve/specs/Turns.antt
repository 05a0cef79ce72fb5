-- What is so between the runs of a search, and at their ends.
use Rattle.std.specs.Prelude.{◌≡◌, ℕ, ◌≤◌, List, length, Option, Some, None}
use Rattle.zi_sat.specs.declared.found.Found.{Found}
use Rattle.zi_sat.specs.declared.found.Found.TheVariants.{Model, Refuted, Spent}
use Rattle.zi_sat.specs.View.{SearchSeen}
use Rattle.zi_sat.specs.Fresh.{Filled}
use Rattle.zi_universe.specs.declared.types.Requirement.{Requirement}
use Rattle.zi_universe.specs.declared.types.Interface.{Interface}
use Rattle.zi_choice.specs.Valid.{NoneIsValid}
use Rattle.zi_build.specs.Clauses.{formula}
use Rattle.zi_certificate.specs.Certificates.{Refutes}
use Rattle.zi_solve.specs.Answers.{FirstIsValid, IsSpent, HasEnded}

-- Between two runs: the search is over the formula, its log may be gone on with, and no valid choice has the first candidate at
-- every place.
pub record IsBetween (u : List Interface) (req : Requirement) (budget : ℕ) (s : SearchSeen) : Type 0 where
  pub formula : s.formula ≡ formula u req
  pub bound : length s.log.lemmas ≤ budget
  pub filled : Filled s.log.lemmas
  pub not_first : ¬ FirstIsValid u req

-- what a run by any decider has come to
abbrev pub HasCome : List Interface → Requirement → ℕ → SearchSeen → Found → Type 0
HasCome u req limit s Model = Unit {0}
HasCome u req limit s Refuted = Refutes u req s.log × NoneIsValid u req
HasCome u req limit s (Spent count) = ¬ FirstIsValid u req → (count ≡ limit) × IsSpent u req limit s.log

-- a turn is the search's end, or there are more
abbrev pub IsTurn : List Interface → Requirement → ℕ → SearchSeen → Option Found → Type 0
IsTurn u req budget s None = IsBetween u req budget s
IsTurn u req budget s (Some found) = HasEnded u req budget s found
