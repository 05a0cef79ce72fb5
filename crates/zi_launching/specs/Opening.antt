-- `launch`: the selections of a document are launched.
use Rattle.std.specs.Prelude.{◌≡◌, ◌⊎◌, ℕ, List, [], ◌∷◌, Ok, Err}
use Rattle.zi_digest.specs.declared.DigestName.{DigestName}
use Rattle.zi_outside.specs.declared.var.Var.{Var}
use Rattle.zi_shelf.specs.Shelving.{Shelving}
use Rattle.zi_store.specs.Keeping.{Keeps, is_names, is_reading}
use Rattle.zi_store.specs.Stores.{Each, HaveNames}
use Rattle.zi_sels.specs.declared.types.Selections.{Selections}
use Rattle.zi_adding.specs.Trying.{Tried}
use Rattle.zi_adding.specs.Gains.{Uses, GainsOnly}
use Rattle.zi_outcome.specs.declared.outcome.Outcome.{Outcome}
use Rattle.zi_opening.specs.Opening.{GetsNot, GetsSelections}
use Rattle.zi_world.specs.Asking.{FeedsStay}
use Rattle.zi_world.specs.Surroundings.{Surroundings, NothingStarted}
use Rattle.zi_world.specs.Shelves.{Untouched}
use Rattle.zi_choosing.specs.Knowing.{all_names, AreNamed}
use Rattle.zi_fetching.specs.Known.{names_of}
use Rattle.zi_launching.specs.Launching.{launching, LaunchesOver}

-- all stores, in the order in which they are searched
abbrev pub stores_of : Surroundings → List Shelving
stores_of s = s.shelf ∷ s.others

-- no call of a store was made, and no program was tried to be started
pub record Leaves (before after : Surroundings) : Type 0 where
  pub stores : Each Untouched (stores_of before) (stores_of after)
  pub nothing : NothingStarted before after

-- Behind the document: the names in the stores aren't found out, and nothing else was asked of them; or over them the selections are launched.
abbrev pub LaunchesRead : Selections → List Var → List (List ℕ) → List Tried → Surroundings → Surroundings → Outcome → Type 0
LaunchesRead sels vars user tried before after outcome =
    ((tried ≡ []) × AreNamed (stores_of before) (stores_of after) (Err outcome) × Each (Keeps is_names) (stores_of before) (stores_of after) × NothingStarted before after)
    ⊎ ((each : List (List DigestName)) × HaveNames (stores_of before) each
    × LaunchesOver (record { sels = sels; each = each; stored = names_of (all_names each); vars = vars; user = user }) tried (launching before) (launching after) outcome)

abbrev pub LaunchesTo : List ℕ → List Var → List (List ℕ) → List Tried → Surroundings → Surroundings → Outcome → Type 0
LaunchesTo file vars user tried before after outcome =
    ((tried ≡ []) × GetsNot file before.feeds outcome after.feeds × Leaves before after)
    ⊎ ((sels : Selections) × GetsSelections file before.feeds (Ok sels) after.feeds × LaunchesRead sels vars user tried before after outcome)

-- The web is asked for nothing, nothing is written, the stored trees are as before but for the shims whose adding was begun, which was in the
-- store that is written, and the other stores are only read.
pub record LaunchesFile (file : List ℕ) (vars : List Var) (user : List (List ℕ)) (before after : Surroundings) (outcome : Outcome) : Type 0 where
  pub feeds : FeedsStay before.feeds after.feeds
  pub web : after.web ≡ before.web
  pub out : after.out ≡ before.out
  pub tried : List Tried
  pub comes : LaunchesTo file vars user tried before after outcome
  pub shelf : Uses tried before.shelf after.shelf
  pub stored : GainsOnly tried before.shelf after.shelf
  pub others : Each (Keeps is_reading) before.others after.others
