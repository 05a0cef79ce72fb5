-- Parts of the work of `select`.
use Rattle.std.specs.Prelude.{◌≡◌, ℕ, ◌⊎◌, List, Option, Some, None}
use Rattle.zi_outside.specs.Views.{Sinking}
use Rattle.zi_universe.specs.declared.types.Requirement.{Requirement}
use Rattle.zi_universe.specs.declared.types.Interface.{Interface}
use Rattle.zi_choice.specs.Choice.{Choice}
use Rattle.zi_choice.specs.Valid.{IsValid, NoneIsValid}
use Rattle.zi_choice.specs.Best.{IsBest}
use Rattle.zi_proof.specs.declared.proof.Proof.{Proof}
use Rattle.zi_certificate.specs.Certificates.{Refutes}
use Rattle.zi_solve.specs.Answers.{IsSpent}
use Rattle.zi_docout.specs.Amiss.{first_amiss}
use Rattle.zi_sels.specs.declared.types.Selections.{Selections}
use Rattle.zi_sels.specs.Chosen.{AreSelected}
use Rattle.zi_sels.specs.Written.{tree}
use Rattle.zi_outcome.specs.declared.outcome.Outcome.{Outcome}
use Rattle.zi_outcome.specs.declared.outcome.Outcome.TheVariants.{TooLarge, NoSolution, Spent, Memory}
use Rattle.zi_outcome.specs.Writing.{PrintsThen, Prints}
use Rattle.zi_choosing.specs.Loaded.{AreFew, AreMany}
use Rattle.zi_choosing.specs.declared.shows.Shows.{Shows}
use Rattle.zi_choosing.specs.Select.{IsShown, refutation_text, IsNoneShown}

-- whatever a valid choice selects, each element of its document can be written
abbrev pub CanBeWritten : List Interface → Requirement → Type 0
CanBeWritten universe req =
    (choice : Choice) → IsValid universe req choice → (sels : Selections) → AreSelected universe req choice sels → first_amiss (tree sels) ≡ None

-- what shows a choice is printed, or there was no memory for it
abbrev pub PrintsChoice : Shows → List Interface → Requirement → Choice → Sinking → Sinking → Outcome → Type 0
PrintsChoice shows universe req choice old new outcome =
    ((text : List ℕ) × IsShown shows universe req choice text × Prints text old new outcome)
    ⊎ ((outcome ≡ Memory) × (new ≡ old))

-- a refutation is printed
abbrev pub PrintsRefutation : Proof → Sinking → Sinking → Outcome → Type 0
PrintsRefutation p old new outcome = PrintsThen (refutation_text p) (NoSolution p) old new outcome

-- a text is printed, or there is none, and then this outcome
abbrev pub PrintsSome : Option (List ℕ) → Outcome → Sinking → Sinking → Outcome → Type 0
PrintsSome None ending old new outcome = (outcome ≡ ending) × (new ≡ old)
PrintsSome (Some text) ending old new outcome = PrintsThen text ending old new outcome

-- what is shown of there being no solution is printed
abbrev pub PrintsNone : Shows → List Interface → Requirement → Proof → Sinking → Sinking → Outcome → Type 0
PrintsNone shows universe req p old new outcome =
    (o : Option (List ℕ)) × IsNoneShown shows universe req p o × PrintsSome o (NoSolution p) old new outcome

-- there is no formula for it, and this is why
abbrev pub HasNoFormula : List Interface → Requirement → Outcome → Type 0
HasNoFormula universe req (TooLarge limit) = AreMany universe req limit
HasNoFormula universe req Memory = Unit {0}
HasNoFormula universe req other = ⊥

-- it is printed, or there is no formula for it
abbrev pub PutsNone : Shows → List Interface → Requirement → Proof → Sinking → Sinking → Outcome → Type 0
PutsNone shows universe req p old new outcome =
    PrintsNone shows universe req p old new outcome ⊎ (HasNoFormula universe req outcome × (new ≡ old))

-- what a search is for, how many lemmas it may learn, and what is shown
pub record Search : Type 0 where
  pub req : Requirement
  pub budget : ℕ
  pub shows : Shows

-- nothing is printed, and this is why
abbrev pub ChoosesNothing : Search → List Interface → Outcome → Type 0
ChoosesNothing s universe (TooLarge limit) = AreMany universe s.req limit
ChoosesNothing s universe (Spent p count) = AreFew universe s.req × (count ≡ s.budget) × IsSpent universe s.req s.budget p
ChoosesNothing s universe Memory = Unit {0}
ChoosesNothing s universe other = ⊥

-- the best choice is printed
pub record ChoosesBest (s : Search) (universe : List Interface) (old new : Sinking) (outcome : Outcome) : Type 0 where
  pub few : AreFew universe s.req
  pub choice : Choice
  pub best : IsBest universe s.req choice
  pub printed : PrintsChoice s.shows universe s.req choice old new outcome

-- there is none, and what is shown of that is printed
pub record ChoosesNone (s : Search) (universe : List Interface) (old new : Sinking) (outcome : Outcome) : Type 0 where
  pub few : AreFew universe s.req
  pub refutation : Proof
  pub refutes : Refutes universe s.req refutation
  pub none : NoneIsValid universe s.req
  pub printed : PrintsNone s.shows universe s.req refutation old new outcome

-- what the choice from a universe says
abbrev pub ChoosesFrom : Search → List Interface → Sinking → Sinking → Outcome → Type 0
ChoosesFrom s universe old new outcome =
    ChoosesBest s universe old new outcome ⊎ (ChoosesNone s universe old new outcome ⊎ (ChoosesNothing s universe outcome × (new ≡ old)))
