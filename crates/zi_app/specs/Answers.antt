-- What the program does.
use Rattle.std.specs.Prelude.{◌≡◌, ◌≢◌, ℕ, ◌⊎◌, List, ◌∷◌}
use Rattle.zi_text.specs.Front.{StopsAt}
use Rattle.zi_outside.specs.Views.{Sinking}
use Rattle.zi_outside.specs.declared.var.Var.{Var}
use Rattle.zi_store.specs.Keeping.{Keeps, is_reading}
use Rattle.zi_store.specs.Stores.{Each}
use Rattle.zi_words.specs.declared.request.Request.{Request}
use Rattle.zi_words.specs.declared.request.Request.TheVariants as request
use Rattle.zi_words.specs.Words.{Right, AreRight}
use Rattle.zi_outcome.specs.declared.outcome.Outcome.{Outcome}
use Rattle.zi_outcome.specs.declared.outcome.Outcome.TheVariants.{Usage, Memory, Child}
use Rattle.zi_app.specs.declared.help.TheConstants.{HELP, VERSION}
use Rattle.zi_world.specs.Asking.{FeedsStay}
use Rattle.zi_world.specs.Shelves.{Lasts}
use Rattle.zi_world.specs.World.{World}
use Rattle.zi_world.specs.Meets.{Meets, Within, world_of}
use Rattle.zi_world.specs.Surroundings.{Surroundings, NothingDoneAround, Unstarted, meets_of}
use Rattle.zi_outcome.specs.Line.{Tells}
use Rattle.zi_adding.specs.Gains.{KeepsTrees}
use Rattle.zi_choosing.specs.Wanted.{asked_in}
use Rattle.zi_choosing.specs.Check.{ChecksBest}
use Rattle.zi_choosing.specs.Refute.{ChecksNone}
use Rattle.zi_choosing.specs.Select.{Selects, Explains, TellsConflict}
use Rattle.zi_fetching.specs.Download.{Downloads}
use Rattle.zi_launching.specs.Run.{RunsProgram}
use Rattle.zi_launching.specs.Opening.{LaunchesFile}
use Rattle.zi_scripting.specs.Scripting.{Scripts, ScriptsFile}
use Rattle.zi_storing.specs.ManifestCommand.{Manifests}
use Rattle.zi_storing.specs.StoreList.{Lists}
use Rattle.zi_storing.specs.StoreVerify.{VerifiesTree}
use Rattle.zi_storing.specs.Adding.{AddsFiles}
use Rattle.zi_storing.specs.StorePurge.{PurgesFiles, SparesNamed}
use Rattle.zi_showing.specs.Showing.{ShowsSelections}
use Rattle.zi_due.specs.Demands.{EndsAsDue}
use Rattle.zi_due.specs.Complete.{Completes}
use Rattle.zi_app.specs.Showing.{ShowsText, ShowsDemo}
use Rattle.zi_app.specs.Outcomes.{Leaves, Blames}

-- The work of a command that meets neither web nor spawner.
abbrev pub Apart : (World → World → Outcome → Type 0) → Surroundings → Surroundings → Outcome → Type 0
Apart Does before after outcome = Unstarted (λ (b a : Meets) o. Within Does b a o) before after outcome

-- What a request asks for is done over these variables, to this outcome. Of all commands only `download`, `run` and `script` meet the web, and
-- only `run` and `launch` the spawner.
abbrev pub Does : Request → List Var → Surroundings → Surroundings → Outcome → Type 0
Does (request.Select ask proof) vars before after outcome = Apart (Selects (asked_in vars ask) proof) before after outcome
Does (request.Why ask) vars before after outcome = Apart (Explains (asked_in vars ask)) before after outcome
Does (request.Conflict ask) vars before after outcome = Apart (TellsConflict (asked_in vars ask)) before after outcome
Does (request.Download ask) vars before after outcome = Unstarted (Downloads (asked_in vars ask)) before after outcome
Does (request.Run ask user) vars before after outcome = RunsProgram (asked_in vars ask) vars user before after outcome
Does (request.Launch file user) vars before after outcome = LaunchesFile file vars user before after outcome
Does (request.Script ask user) vars before after outcome = Unstarted (Scripts (asked_in vars ask) vars user) before after outcome
Does (request.ScriptLaunch file user) vars before after outcome = Unstarted (ScriptsFile file vars user) before after outcome
Does (request.Check ask sels proof) vars before after outcome = Apart (ChecksBest (asked_in vars ask) sels proof) before after outcome
Does (request.Refute ask proof) vars before after outcome = Apart (ChecksNone (asked_in vars ask) proof) before after outcome
Does (request.Manifest algorithm name) vars before after outcome = Apart (Manifests algorithm name) before after outcome
Does (request.Add name files) vars before after outcome = Apart (AddsFiles name files) before after outcome
Does (request.Purge files) vars before after outcome = Apart (PurgesFiles files) before after outcome
Does (request.Verify name) vars before after outcome = Apart (VerifiesTree name) before after outcome
Does request.Names vars before after outcome = Apart Lists before after outcome
Does (request.Show file) vars before after outcome = Apart (ShowsSelections file) before after outcome
Does (request.Demo n) vars before after outcome = Apart (ShowsDemo n) before after outcome
Does request.Help vars before after outcome = Apart (ShowsText HELP.now) before after outcome
Does request.Version vars before after outcome = Apart (ShowsText VERSION.now) before after outcome

-- That is done; or memory was refused before it was begun, and nothing is done.
abbrev pub Answers : Request → List Var → Surroundings → Surroundings → Outcome → Type 0
Answers asked vars before after outcome = Does asked vars before after outcome ⊎ ((outcome ≡ Memory) × NothingDoneAround before after)

-- The words are right, and what they ask for is done. It never comes to Usage.
pub record AreDone (words : List (List ℕ)) (vars : List Var) (before after : Surroundings) (outcome : Outcome) : Type 0 where
  pub asked : Request
  pub right : Right words asked
  pub does : Does asked vars before after outcome
  pub not_usage : (index : ℕ) → outcome ≢ Usage index

-- The words aren't right: this is Usage, at the number of words in their longest front that right words begin with, and nothing is done.
pub record AreWrong (words : List (List ℕ)) (before after : Surroundings) (outcome : Outcome) : Type 0 where
  pub wrong : ¬ AreRight words
  pub index : ℕ
  pub stops : StopsAt AreRight words index
  pub usage : outcome ≡ Usage index
  pub nothing : NothingDoneAround before after

-- The work of any words. Where memory is refused before what they ask for is begun nothing is done.
abbrev pub Works : List (List ℕ) → List Var → Surroundings → Surroundings → Outcome → Type 0
Works words vars before after outcome =
    AreDone words vars before after outcome ⊎ (AreWrong words before after outcome ⊎ ((outcome ≡ Memory) × NothingDoneAround before after))

-- What was stored in the store that is written is as before, but for trees that have come, each under its digest; or the words ask for a purge, and
-- what is gone are trees whose digest no selection in the files has.
abbrev pub StoredStays : List (List ℕ) → Surroundings → Surroundings → Type 0
StoredStays words before after =
    KeepsTrees before.shelf after.shelf
    ⊎ ((files : List (List ℕ)) × Right words (request.Purge files) × SparesNamed files (world_of (meets_of before)) (world_of (meets_of after)))

-- The work is done, to an outcome of its own, and the line of that is told on err. That outcome says what was written, and whose calls failed.
-- Whatever it was, feeds, stores and web can be used on; what stood under a digest in the store that is written stands there, but for what a
-- purge takes away, and each tree that has come under one has it; the other stores were only read; and after every outcome but a program's
-- status nothing was launched. Where no call failed, it ends as is due by what is held when it begins: so where
-- nothing stands in the way of what is asked for, it is done.
pub record Runs (words : List (List ℕ)) (vars : List Var) (before after : Surroundings) (err_before err_after : Sinking) (outcome : Outcome) : Type 0 where
  pub work : Outcome
  pub done : Works words vars before after work
  pub told : Tells work err_before err_after outcome
  pub out : Leaves work before.out after.out
  pub blamed : Blames work before after
  pub feeds : FeedsStay before.feeds after.feeds
  pub stores : Each Lasts (before.shelf ∷ before.others) (after.shelf ∷ after.others)
  pub web : FeedsStay before.web after.web
  pub stored : StoredStays words before after
  pub others : Each (Keeps is_reading) before.others after.others
  pub quiet : ((status : ℕ) → outcome ≢ Child status) → after.spawner.ran ≡ before.spawner.ran
  pub due : EndsAsDue words vars before after outcome
  pub complete : Completes words vars before after outcome
