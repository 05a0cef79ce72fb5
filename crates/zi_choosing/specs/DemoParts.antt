-- Parts of the work of `demo`.
use Rattle.std.specs.Prelude.{◌≡◌, ℕ, ◌⊎◌, List}
use Rattle.zi_outside.specs.Views.{Sinking}
use Rattle.zi_universe.specs.declared.types.Requirement.{Requirement}
use Rattle.zi_universe.specs.declared.types.Interface.{Interface}
use Rattle.zi_choice.specs.Choice.{Choice}
use Rattle.zi_choice.specs.Valid.{NoneIsValid}
use Rattle.zi_choice.specs.Best.{IsBest}
use Rattle.zi_proof.specs.declared.proof.Certificate.{Certificate}
use Rattle.zi_certificate.specs.Certificates.{Excludes, Refutes}
use Rattle.zi_solve.specs.Answers.{IsSpent}
use Rattle.zi_outcome.specs.declared.outcome.Outcome.{Outcome}
use Rattle.zi_outcome.specs.declared.outcome.Outcome.TheVariants.{TooLarge, NoSolution, Spent, Memory}
use Rattle.zi_outcome.specs.Writing.{Prints}
use Rattle.zi_choosing.specs.Loaded.{AreFew, AreMany}
use Rattle.zi_choosing.specs.Demo.{counts_of, lines}

-- how many lemmas the search may learn
abbrev pub budget : ℕ
budget = 20000

-- nothing is printed, and this is why
abbrev pub CountsNothing : Requirement → List Interface → Outcome → Type 0
CountsNothing req universe (TooLarge limit) = AreMany universe req limit
CountsNothing req universe (NoSolution p) = AreFew universe req × Refutes universe req p × NoneIsValid universe req
CountsNothing req universe (Spent p count) = AreFew universe req × (count ≡ budget) × IsSpent universe req budget p
CountsNothing req universe Memory = Unit {0}
CountsNothing req universe other = ⊥

-- the best choice, which a certificate shows, and its lines, which are printed
pub record CountsBest (req : Requirement) (universe : List Interface) (old new : Sinking) (outcome : Outcome) : Type 0 where
  pub few : AreFew universe req
  pub choice : Choice
  pub best : IsBest universe req choice
  pub checked : (c : Certificate) × Excludes universe req choice c
  pub printed : Prints (lines (counts_of universe choice)) old new outcome

-- what the counting of a universe says
abbrev pub CountsFrom : Requirement → List Interface → Sinking → Sinking → Outcome → Type 0
CountsFrom req universe old new outcome = CountsBest req universe old new outcome ⊎ (CountsNothing req universe outcome × (new ≡ old))
