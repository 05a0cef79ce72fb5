-- What is due of each request by what is held when the call begins.
use Rattle.std.specs.Prelude.{◌≡◌, ◌⊎◌, ℕ, true, false, List}
use Rattle.zi_text.specs.Front.{StopsAt}
use Rattle.zi_outside.specs.declared.var.Var.{Var}
use Rattle.zi_words.specs.declared.request.Request.{Request}
use Rattle.zi_words.specs.declared.request.Request.TheVariants as request
use Rattle.zi_words.specs.Words.{Right, AreRight}
use Rattle.zi_world.specs.Surroundings.{Surroundings}
use Rattle.zi_outcome.specs.declared.outcome.Outcome.{Outcome}
use Rattle.zi_outcome.specs.declared.outcome.Outcome.TheVariants.{Done, Usage}
use Rattle.zi_choosing.specs.Wanted.{asked_in}
use Rattle.zi_due.specs.Due.{Due, End, Comes, plainly, Ends}
use Rattle.zi_due.specs.Held.{Held, AreHeld, NoneFailed}
use Rattle.zi_due.specs.Trees.{EndsManifest, EndsVerify}
use Rattle.zi_due.specs.Adding.{EndsAdd}
use Rattle.zi_due.specs.Purging.{EndsPurge}
use Rattle.zi_due.specs.Choosing.{EndsSelect, EndsRefute, EndsCheck}
use Rattle.zi_due.specs.Launching.{EndsLaunch}
use Rattle.zi_due.specs.Chosen.{EndsDownload, EndsRun}

-- no search is made, and this is so of the outcome that is due
abbrev pub Plainly : (Outcome → Type 0) → Due → Type 0
Plainly Is due = (outcome : Outcome) × (due ≡ plainly outcome) × Is outcome

-- no search is made, and this is so of the end that is due
abbrev pub Unsearched : (End → Type 0) → Due → Type 0
Unsearched Is due = (due.searched ≡ false) × Is due.end

-- What is due of a request. Nothing is said of the demonstration, which ends by its own feeds.
abbrev pub IsDueOf : Request → List Var → Held → Due → Type 0
IsDueOf (request.Select ask proof) vars held due = EndsSelect (asked_in vars ask) held due
IsDueOf (request.Why ask) vars held due = EndsSelect (asked_in vars ask) held due
IsDueOf (request.Conflict ask) vars held due = EndsSelect (asked_in vars ask) held due
IsDueOf (request.Download ask) vars held due = EndsDownload (asked_in vars ask) held due
IsDueOf (request.Run ask user) vars held due = EndsRun (asked_in vars ask) vars user held due
IsDueOf (request.Launch file user) vars held due = Unsearched (EndsLaunch file vars user held) due
IsDueOf (request.Check ask sels proof) vars held due = Plainly (EndsCheck (asked_in vars ask) sels proof held) due
IsDueOf (request.Refute ask proof) vars held due = Plainly (EndsRefute (asked_in vars ask) proof held) due
IsDueOf (request.Manifest algorithm name) vars held due = Plainly (EndsManifest name held.stores) due
IsDueOf (request.Verify name) vars held due = Plainly (EndsVerify name held.stores) due
IsDueOf (request.Add name files) vars held due = Plainly (EndsAdd name files held.feeds held.stores) due
IsDueOf (request.Purge files) vars held due = Plainly (EndsPurge files held.feeds held.stores) due
IsDueOf request.Names vars held due = due ≡ plainly Done
IsDueOf request.Help vars held due = due ≡ plainly Done
IsDueOf request.Version vars held due = due ≡ plainly Done
IsDueOf other vars held due = ⊥

-- What is due of words: what is due of the request that they make; or they are wrong, at the number of words in their longest front that
-- right words begin with.
abbrev pub IsDue : List (List ℕ) → List Var → Held → Due → Type 0
IsDue words vars held due =
    ((asked : Request) × Right words asked × IsDueOf asked vars held due)
    ⊎ (¬ AreRight words × ((index : ℕ) × StopsAt AreRight words index × (due ≡ plainly (Usage index))))

-- Where the objects hold something and no call of any of them fails, it ends as that demands.
abbrev pub EndsAsDue : List (List ℕ) → List Var → Surroundings → Surroundings → Outcome → Type 0
EndsAsDue words vars before after outcome =
    (held : Held) (due : Due) → AreHeld before held → NoneFailed before after → IsDue words vars held due → Ends due outcome
