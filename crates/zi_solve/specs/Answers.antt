-- What each answer of the solver says.
use Rattle.std.specs.Prelude.{◌≡◌, ℕ, ◌<◌, ◌^◌, true, List, length, All}
use Rattle.zi_formula.specs.Truth.{Models}
use Rattle.zi_proof.specs.declared.proof.Lemma.{Lemma}
use Rattle.zi_proof.specs.declared.proof.Proof.{Proof}
use Rattle.zi_proof.specs.Known.{nothing}
use Rattle.zi_proof.specs.Accepted.{citable, follows}
use Rattle.zi_proof.specs.Lean.{AreLean}
use Rattle.zi_sat.specs.declared.entry.Entry.{Entry}
use Rattle.zi_sat.specs.declared.found.Found.{Found}
use Rattle.zi_sat.specs.declared.found.Found.TheVariants.{Model, Refuted, Spent}
use Rattle.zi_sat.specs.View.{SearchSeen}
use Rattle.zi_sat.specs.Trail.{lits_of, OpenAll}
use Rattle.zi_sat.specs.Moves.{Lawful}
use Rattle.zi_sat.specs.Ends.{values_of, AreDecided}
use Rattle.zi_sat.specs.Fresh.{AreFresh, Filled}
use Rattle.zi_universe.specs.declared.types.Requirement.{Requirement}
use Rattle.zi_universe.specs.declared.types.Interface.{Interface}
use Rattle.zi_choice.specs.Choice.{Choice}
use Rattle.zi_choice.specs.Valid.{IsValid, NoneIsValid}
use Rattle.zi_choice.specs.Best.{IsBest}
use Rattle.zi_choice.specs.Vars.{var_count}
use Rattle.zi_build.specs.Clauses.{formula}
use Rattle.zi_walk.specs.Rule.{walk_picks}
use Rattle.zi_walk.specs.Laws.{IsFirst}
use Rattle.zi_certificate.specs.Certificates.{Excludes, Refutes}
use Rattle.zi_solve.specs.declared.answer.Answer.{Answer}
use Rattle.zi_solve.specs.declared.answer.Answer.TheVariants as answer
use Rattle.zi_solve.specs.declared.solving.Chosen.{Chosen}

-- a valid choice has the first candidate at every place of its walk
pub record FirstIsValid (u : List Interface) (req : Requirement) : Type 0 where
  pub choice : Choice
  pub valid : IsValid u req choice
  pub first : All (IsFirst u) valid.walk.places

-- What is said where the budget is spent: the lemmas are as many, follow, are fresh and lean, and each have a literal; no valid
-- choice has the first candidate at every place; and the budget is less than 3 to the power of the number of variables.
pub record IsSpent (u : List Interface) (req : Requirement) (budget : ℕ) (proof : Proof) : Type 0 where
  pub each : length proof.lemmas ≡ budget
  pub follow : follows (formula u req) proof.lemmas ≡ true
  pub fresh : AreFresh (formula u req).constraints proof.lemmas
  pub lean : AreLean (formula u req).constraints proof.lemmas
  pub filled : Filled proof.lemmas
  pub not_first : ¬ FirstIsValid u req
  pub less : budget < 3 ^ var_count u

-- Best, only with the best choice and a certificate; None, only with a refutation, and so where no choice is valid; Spent, only
-- with the budget as its count, and where it is spent.
abbrev pub AnswerMeans : List Interface → Requirement → ℕ → Answer → Type 0
AnswerMeans u req budget (answer.Best choice certificate) = IsBest u req choice.picks × Excludes u req choice.picks certificate
AnswerMeans u req budget (answer.None proof) = Refutes u req proof × NoneIsValid u req
AnswerMeans u req budget (answer.Spent proof count) = (count ≡ budget) × IsSpent u req budget proof

-- The trail came about by the rule, decides every variable, and its values are a model.
pub record IsFound (u : List Interface) (req : Requirement) (ms : List Lemma) (es : List Entry) : Type 0 where
  pub follow : follows (formula u req) ms ≡ true
  pub lawful : Lawful (citable (formula u req).constraints ms) (formula u req).constraints (walk_picks u req (var_count u)) es
  pub fresh : OpenAll nothing (lits_of es)
  pub decided : AreDecided (var_count u) es
  pub model : Models (values_of es) (formula u req)

-- what a search with this budget has come to
abbrev pub HasEnded : List Interface → Requirement → ℕ → SearchSeen → Found → Type 0
HasEnded u req budget s Model = IsFound u req s.log.lemmas s.trail.entries
HasEnded u req budget s Refuted = Refutes u req s.log × NoneIsValid u req
HasEnded u req budget s (Spent count) = (count ≡ budget) × IsSpent u req budget s.log

-- the best choice, with blocks that exclude what stands before it
pub record IsCertified (u : List Interface) (req : Requirement) (proof : Proof) (chosen : Chosen) : Type 0 where
  pub best : IsBest u req chosen.choice.picks
  pub excludes : Excludes u req chosen.choice.picks (record { proof = proof; blocks = chosen.blocks })
