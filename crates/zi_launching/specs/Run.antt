-- `run`: what the best choice selects is fetched, and launched.
use Rattle.std.specs.Prelude.{◌≡◌, ◌≢◌, ◌⊎◌, ℕ, List, ◌++◌, Option, None, IsSome, All, Err}
use Rattle.zi_outside.specs.declared.var.Var.{Var}
use Rattle.zi_shelf.specs.Shelving.{Shelving}
use Rattle.zi_shelf.specs.Told.{Told}
use Rattle.zi_store.specs.Keeping.{Keeps, is_reading}
use Rattle.zi_store.specs.Stores.{Each, IsCalm}
use Rattle.zi_adding.specs.Trying.{Tried, CostsAll}
use Rattle.zi_adding.specs.Gains.{Uses, GainsOnly}
use Rattle.zi_plan.specs.declared.fault.PlanFault.{PlanFault}
use Rattle.zi_plan.specs.declared.fault.PlanFault.TheVariants.{NoSelection, NoFolder, NoCommand}
use Rattle.zi_outcome.specs.declared.outcome.Outcome.{Outcome}
use Rattle.zi_outcome.specs.declared.outcome.Outcome.TheVariants.{MissingTree, Plan}
use Rattle.zi_world.specs.Asking.{FeedsStay}
use Rattle.zi_world.specs.Surroundings.{Surroundings, meets_of, NothingStarted}
use Rattle.zi_world.specs.Places.{AreTold, place}
use Rattle.zi_choosing.specs.declared.asked.Asked.{Asked}
use Rattle.zi_choosing.specs.declared.chosen.Chosen.{Chosen}
use Rattle.zi_choosing.specs.Finding.{FindsOver}
use Rattle.zi_fetching.specs.Known.{Names}
use Rattle.zi_fetching.specs.Fetching.{Fetches, FetchesNot}
use Rattle.zi_fetching.specs.Download.{sources, NothingFetched, HasChosen}
use Rattle.zi_launching.specs.Folders.{stored_at, folder, first_missing}
use Rattle.zi_launching.specs.Launching.{launching, LaunchesOver}

-- Behind the choice: one of the selections can't be fetched, and nothing is launched. No call of the other stores failed.
pub record StopsBefore (c : Chosen) (tried : List Tried) (before after : Surroundings) (outcome : Outcome) : Type 0 where
  pub fetches : FetchesNot c before.web outcome tried after.web
  pub cost : CostsAll tried before.shelf after.shelf
  pub calm : Each IsCalm before.others after.others
  pub nothing : NothingStarted before after

-- honest stores that told what they held don't lack a tree
abbrev pub NoneMissing : List Shelving → Outcome → Type 0
NoneMissing stores outcome = (ss : List Told) → AreTold stores ss → (name : List ℕ) → outcome ≢ MissingTree name

-- a fault of a plan that isn't of a selection, a folder or a command that is missing, but where no command is asked for
abbrev pub IsNoLack : Option (List ℕ) → PlanFault → Type 0
IsNoLack command (NoSelection interface) = ⊥
IsNoLack command (NoFolder interface) = ⊥
IsNoLack command (NoCommand interface name) = command ≡ None
IsNoLack command other = Unit {0}

abbrev pub LacksNothing : Option (List ℕ) → Outcome → Type 0
LacksNothing command outcome = (fault : PlanFault) → outcome ≡ Plan fault → IsNoLack command fault

-- Or all are fetched, so none is missing a tree and each but a package has a folder, and then they are launched, over the digest names that are
-- stored then. Their plan fails by nothing that is missing, nor do the words of their shims, but where the words ask for no command; and while
-- nobody else writes the store no tree is found missing when it is read. What was tried are the trees that were fetched, and then the shims.
pub record FetchesAndLaunches (c : Chosen) (vars : List Var) (user : List (List ℕ)) (tried : List Tried) (before after : Surroundings) (outcome : Outcome) : Type 0 where
  pub stored : Names
  pub done : List Tried
  pub shims : List Tried
  pub all : tried ≡ done ++ shims
  pub fetched : Fetches c before.web stored done after.web
  pub there : first_missing stored c.sels.items ≡ None
  pub placed : All (λ x. IsSome x.«package» ⊎ IsSome (folder (stored_at (launching before).stores (place c.known.each)) stored x)) c.sels.items
  pub launches : LaunchesOver (record { sels = c.sels; each = c.known.each; stored = stored; vars = vars; user = user }) shims (launching before) (launching after) outcome
  pub found : NoneMissing (launching before).stores outcome
  pub whole : LacksNothing c.sels.command outcome

-- how far it comes, to which outcome
abbrev pub RunsTo : Asked → List Var → List (List ℕ) → List Tried → Surroundings → Surroundings → Outcome → Type 0
RunsTo asked vars user tried before after outcome =
    (FindsOver asked (sources (meets_of before)) (sources (meets_of after)) (Err outcome) × NothingFetched tried before.web after.web × NothingStarted before after)
    ⊎ ((c : Chosen) × HasChosen asked (launching before).stores before.feeds c after.feeds
    × (StopsBefore c tried before after outcome ⊎ FetchesAndLaunches c vars user tried before after outcome))

-- Whatever the outcome, nothing is written, feeds and web hold what they held, the stored trees are as before but for those whose adding was
-- begun, which was in the store that is written, and the other stores are only read.
pub record RunsProgram (asked : Asked) (vars : List Var) (user : List (List ℕ)) (before after : Surroundings) (outcome : Outcome) : Type 0 where
  pub feeds : FeedsStay before.feeds after.feeds
  pub web : FeedsStay before.web after.web
  pub out : after.out ≡ before.out
  pub tried : List Tried
  pub comes : RunsTo asked vars user tried before after outcome
  pub shelf : Uses tried before.shelf after.shelf
  pub stored : GainsOnly tried before.shelf after.shelf
  pub others : Each (Keeps is_reading) before.others after.others
