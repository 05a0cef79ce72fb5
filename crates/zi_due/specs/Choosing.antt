-- What is due of the commands that load a universe.
use Rattle.std.specs.Prelude.{◌≡◌, ◌⊎◌, ◌^◌, ℕ, ◌≤◌, Bool, true, false, List, Result, Ok, Err}
use Rattle.zi_outside.specs.Views.{Holding}
use Rattle.zi_words.specs.declared.request.Ask.{Ask}
use Rattle.zi_universe.specs.declared.types.Interface.{Interface}
use Rattle.zi_universe.specs.declared.types.Requirement.{Requirement}
use Rattle.zi_choice.specs.Choice.{Choice}
use Rattle.zi_choice.specs.Valid.{IsValid, NoneIsValid}
use Rattle.zi_choice.specs.Vars.{var_count}
use Rattle.zi_build.specs.Clauses.{most_literals}
use Rattle.zi_solve.specs.Answers.{FirstIsValid}
use Rattle.zi_proof.specs.declared.proof.Certificate.{Certificate}
use Rattle.zi_proof.specs.declared.fault.ProofFault.TheVariants.{Bad}
use Rattle.zi_proof.specs.ProofText.{IsProofText, FaultMeans}
use Rattle.zi_sels.specs.declared.types.Selections.{Selections}
use Rattle.zi_sels.specs.Reading.{Says, HasFault}
use Rattle.zi_outcome.specs.declared.outcome.Outcome.{Outcome}
use Rattle.zi_outcome.specs.declared.outcome.Outcome.TheVariants.{Done, TooLarge, BadSels, BadProof, Rejected}
use Rattle.zi_choosing.specs.declared.asked.Asked.{Asked}
use Rattle.zi_choosing.specs.Wanted.{requirement_of}
use Rattle.zi_choosing.specs.Loaded.{AreFew, AreMany}
use Rattle.zi_choosing.specs.Refute as refute
use Rattle.zi_choosing.specs.Check as check
use Rattle.zi_due.specs.Due.{Due, End, Comes, Refutes, plainly}
use Rattle.zi_due.specs.Held.{Held}
use Rattle.zi_due.specs.Files.{got, OfFile}
use Rattle.zi_due.specs.Knowing.{ComesTo}

-- A search with this budget may be spent. It never is where the choice with the first candidate at every place of its walk is valid,
-- nor where the budget is 3 to the power of the number of variables.
abbrev pub IsSearched : List Interface → Requirement → ℕ → Bool → Type 0
IsSearched universe req budget true = Unit {0}
IsSearched universe req budget false = FirstIsValid universe req ⊎ (3 ^ var_count universe ≤ budget)

-- what a search comes to: some choice is valid, or none is
abbrev pub FindsEnd : List Interface → Requirement → End → Type 0
FindsEnd universe req Refutes = NoneIsValid universe req
FindsEnd universe req (Comes outcome) = (choice : Choice) × IsValid universe req choice × (outcome ≡ Done)
FindsEnd universe req other = ⊥

-- what is due of a search in a universe: its constraints are too many, or it is made, and so it is of its end
abbrev pub SearchesFor : (End → Type 0) → List Interface → Requirement → ℕ → Due → Type 0
SearchesFor Finds universe req budget due =
    (AreMany universe req most_literals × (due ≡ plainly (TooLarge most_literals)))
    ⊎ (AreFew universe req × IsSearched universe req budget due.searched × Finds due.end)

abbrev pub SearchesBy : (List Interface → End → Type 0) → Requirement → ℕ → Result (List Interface) Outcome → Due → Type 0
SearchesBy Finds req budget (Err outcome) due = due ≡ plainly outcome
SearchesBy Finds req budget (Ok universe) due = SearchesFor (Finds universe) universe req budget due

-- of a choice
abbrev pub ChoosesFrom : List Interface → Requirement → ℕ → Due → Type 0
ChoosesFrom universe req budget due = SearchesFor (FindsEnd universe req) universe req budget due

abbrev pub ChoosesBy : Requirement → ℕ → Result (List Interface) Outcome → Due → Type 0
ChoosesBy req budget result due = SearchesBy (λ universe. FindsEnd universe req) req budget result due

-- `select`, `why` and `conflict`
abbrev pub EndsSelect : Asked → Held → Due → Type 0
EndsSelect asked held due =
    (result : Result (List Interface) Outcome) × ComesTo asked held result × ChoosesBy (requirement_of asked.ask) asked.ask.search result due

-- The tests of a proof, of a certificate for selections, and of these.

abbrev pub Proves : List Interface → Requirement → Certificate → Outcome → Type 0
Proves universe req c Done = refute.IsRight universe req c
Proves universe req c Rejected = refute.IsWrong universe req c
Proves universe req c (TooLarge limit) = refute.IsTooLarge universe req c limit
Proves universe req c other = ⊥

abbrev pub Certifies : List Interface → Requirement → Selections → Certificate → Outcome → Type 0
Certifies universe req sels c Done = check.AreRight universe req sels c
Certifies universe req sels c Rejected = check.AreWrong universe req sels c
Certifies universe req sels c (TooLarge limit) = check.AreTooLarge universe req sels limit
Certifies universe req sels c other = ⊥

-- the bytes of a certificate aren't one, or this is so of it
abbrev pub OfProof : (Certificate → Outcome → Type 0) → List ℕ → Outcome → Type 0
OfProof Is bytes (BadProof line) = FaultMeans bytes (Bad line)
OfProof Is bytes other = (c : Certificate) × IsProofText bytes c × Is c other

-- the bytes of selections say none, or this is so of them
abbrev pub OfSels : (Selections → Outcome → Type 0) → List ℕ → Outcome → Type 0
OfSels Is bytes (BadSels fault) = HasFault bytes fault
OfSels Is bytes other = (sels : Selections) × Says bytes sels × Is sels other

-- over what is loaded
abbrev pub OfUniverse : (List Interface → Outcome → Type 0) → Result (List Interface) Outcome → Outcome → Type 0
OfUniverse Is (Err why) outcome = outcome ≡ why
OfUniverse Is (Ok universe) outcome = Is universe outcome

-- `refute`: the proof's file is asked for behind the loading
abbrev pub RefutesBy : Ask → List ℕ → Holding → List Interface → Outcome → Type 0
RefutesBy ask proof holds universe outcome = OfFile (got refute.proof_limit proof (holds proof)) (OfProof (Proves universe (requirement_of ask))) outcome

abbrev pub EndsRefute : Asked → List ℕ → Held → Outcome → Type 0
EndsRefute asked proof held outcome =
    (result : Result (List Interface) Outcome) × ComesTo asked held result × OfUniverse (RefutesBy asked.ask proof held.feeds) result outcome

-- `check`: the selections' file first, and behind selections that are right the certificate's
abbrev pub CertifiesBy : Ask → List ℕ → Holding → List Interface → Selections → Outcome → Type 0
CertifiesBy ask proof holds universe sels outcome =
    OfFile (got refute.proof_limit proof (holds proof)) (OfProof (Certifies universe (requirement_of ask) sels)) outcome

abbrev pub ChecksBy : Ask → List ℕ → List ℕ → Holding → List Interface → Outcome → Type 0
ChecksBy ask sels proof holds universe outcome = OfFile (got check.sels_limit sels (holds sels)) (OfSels (CertifiesBy ask proof holds universe)) outcome

abbrev pub EndsCheck : Asked → List ℕ → List ℕ → Held → Outcome → Type 0
EndsCheck asked sels proof held outcome =
    (result : Result (List Interface) Outcome) × ComesTo asked held result × OfUniverse (ChecksBy asked.ask sels proof held.feeds) result outcome
