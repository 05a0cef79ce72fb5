-- Where nothing stands in the way of what is asked for, it is done.
use Rattle.std.specs.Prelude.{◌≡◌, ℕ, List, Ok}
use Rattle.zi_outside.specs.declared.var.Var.{Var}
use Rattle.zi_universe.specs.declared.types.Interface.{Interface}
use Rattle.zi_words.specs.declared.request.Request.{Request}
use Rattle.zi_words.specs.declared.request.Request.TheVariants as request
use Rattle.zi_words.specs.Words.{Right}
use Rattle.zi_outcome.specs.declared.outcome.Outcome.{Outcome}
use Rattle.zi_outcome.specs.declared.outcome.Outcome.TheVariants.{Done, NoSolution, Spent, Memory, Child}
use Rattle.zi_world.specs.Surroundings.{Surroundings}
use Rattle.zi_choosing.specs.declared.asked.Asked.{Asked}
use Rattle.zi_choosing.specs.Wanted.{requirement_of, asked_in}
use Rattle.zi_choosing.specs.Loaded.{AreFew}
use Rattle.zi_due.specs.Due.{Comes, Starts}
use Rattle.zi_due.specs.Held.{Held, AreHeld, NoneFailed}
use Rattle.zi_due.specs.Knowing.{ComesTo}
use Rattle.zi_due.specs.Choosing.{EndsRefute, EndsCheck}
use Rattle.zi_due.specs.Trees.{EndsManifest, EndsVerify}
use Rattle.zi_due.specs.Adding.{EndsAdd}
use Rattle.zi_due.specs.Purging.{EndsPurge}
use Rattle.zi_due.specs.Launching.{EndsLaunch}
use Rattle.zi_due.specs.Fetching.{EndsDocument, EndsProgram}
use Rattle.zi_due.specs.Chosen.{OfPicked}

-- There is a universe: so the root's feed is there, every feed that is reached is right, and no limit of the loading is passed. And the constraints
-- on a choice from it are few enough.
abbrev pub CanChoose : Asked → Held → Type 0
CanChoose asked held = (universe : List Interface) × ComesTo asked held (Ok universe) × AreFew universe (requirement_of asked.ask)

-- nothing stands in the way of a request, by what is held
abbrev pub IsClear : Request → List Var → Held → Type 0
IsClear (request.Select ask proof) vars held = CanChoose (asked_in vars ask) held
IsClear (request.Why ask) vars held = CanChoose (asked_in vars ask) held
IsClear (request.Conflict ask) vars held = CanChoose (asked_in vars ask) held
IsClear (request.Download ask) vars held = CanChoose (asked_in vars ask) held × OfPicked (asked_in vars ask) held (EndsDocument held) (Comes Done)
IsClear (request.Run ask user) vars held = CanChoose (asked_in vars ask) held × OfPicked (asked_in vars ask) held (EndsProgram vars user held) Starts
IsClear (request.Launch file user) vars held = EndsLaunch file vars user held Starts
IsClear (request.Check ask sels proof) vars held = EndsCheck (asked_in vars ask) sels proof held Done
IsClear (request.Refute ask proof) vars held = EndsRefute (asked_in vars ask) proof held Done
IsClear (request.Manifest algorithm name) vars held = EndsManifest name held.stores Done
IsClear (request.Verify name) vars held = EndsVerify name held.stores Done
IsClear (request.Add name files) vars held = EndsAdd name files held.feeds held.stores Done
IsClear (request.Purge files) vars held = EndsPurge files held.feeds held.stores Done
IsClear request.Names vars held = Unit {0}
IsClear request.Help vars held = Unit {0}
IsClear request.Version vars held = Unit {0}
IsClear other vars held = ⊥

-- how a command ends then that chooses, one that chooses and starts a program, one that starts one, one that counts a choice, and any other
abbrev pub HasChosen : Outcome → Type 0
HasChosen Done = Unit {0}
HasChosen (NoSolution proof) = Unit {0}
HasChosen (Spent proof count) = Unit {0}
HasChosen Memory = Unit {0}
HasChosen other = ⊥

abbrev pub HasRun : Outcome → Type 0
HasRun (Child status) = Unit {0}
HasRun (NoSolution proof) = Unit {0}
HasRun (Spent proof count) = Unit {0}
HasRun Memory = Unit {0}
HasRun other = ⊥

abbrev pub HasStarted : Outcome → Type 0
HasStarted (Child status) = Unit {0}
HasStarted Memory = Unit {0}
HasStarted other = ⊥

abbrev pub HasCounted : Outcome → Type 0
HasCounted Done = Unit {0}
HasCounted (Spent proof count) = Unit {0}
HasCounted Memory = Unit {0}
HasCounted other = ⊥

abbrev pub HasDone : Outcome → Type 0
HasDone Done = Unit {0}
HasDone Memory = Unit {0}
HasDone other = ⊥

abbrev pub IsDone : Request → Outcome → Type 0
IsDone (request.Select ask proof) outcome = HasChosen outcome
IsDone (request.Why ask) outcome = HasChosen outcome
IsDone (request.Conflict ask) outcome = HasChosen outcome
IsDone (request.Download ask) outcome = HasChosen outcome
IsDone (request.Run ask user) outcome = HasRun outcome
IsDone (request.Launch file user) outcome = HasStarted outcome
IsDone (request.Demo n) outcome = HasCounted outcome
IsDone other outcome = HasDone outcome

-- where no call of any object fails
abbrev pub Completes : List (List ℕ) → List Var → Surroundings → Surroundings → Outcome → Type 0
Completes words vars before after outcome =
    (asked : Request) (held : Held) → Right words asked → AreHeld before held → NoneFailed before after → IsClear asked vars held → IsDone asked outcome
