-- The launch of selections: their folders, the plan, the trees, and the start, in this order.
use Rattle.std.specs.Prelude.{◌≡◌, ◌⊎◌, List, [], ◌∷◌, ◌++◌, ℕ, map, Option, Some, None, IsSome, All, Contains, Result, Ok, Err}
use Rattle.zi_digest.specs.declared.DigestName.{DigestName}
use Rattle.zi_outside.specs.Launched.{Spawning, Launches}
use Rattle.zi_outside.specs.declared.launch.Launch.{Launch}
use Rattle.zi_outside.specs.declared.var.Var.{Var}
use Rattle.zi_outside.specs.declared.spawner.SpawnFault.TheVariants as spawn
use Rattle.zi_shelf.specs.Shelving.{Shelving}
use Rattle.zi_store.specs.Stores.{Each, IsCalm}
use Rattle.zi_sels.specs.declared.types.Selection.{Selection}
use Rattle.zi_sels.specs.declared.types.Selections.{Selections}
use Rattle.zi_plan.specs.declared.fault.PlanFault.{PlanFault}
use Rattle.zi_plan.specs.declared.call.ShimCall.{ShimCall}
use Rattle.zi_plan.specs.Plans.{Plans}
use Rattle.zi_plan.specs.Shims.{ShimsOf, shims_of, empty_texts}
use Rattle.zi_adding.specs.Trying.{Tried}
use Rattle.zi_outcome.specs.declared.outcome.Outcome.{Outcome}
use Rattle.zi_outcome.specs.declared.outcome.Outcome.TheVariants.{Plan, SpawnFault, Child, Memory}
use Rattle.zi_world.specs.Surroundings.{Surroundings}
use Rattle.zi_world.specs.Places.{place, InStore}
use Rattle.zi_world.specs.Shelves.{HeldThen}
use Rattle.zi_fetching.specs.Known.{Names}
use Rattle.zi_launching.specs.Folders.{stored_at, folder, tree_of, trees_of, first_missing, LacksFolder}
use Rattle.zi_launching.specs.Verifying.{SoundAt, AreSound, StopsVerifying}
use Rattle.zi_launching.specs.Shims.{shim_digest, AddsInTurn, StopsAdding, IsShim, CostsFirst, WorksOn}

-- what is launched: selections, over stores with these trees, with variables and the user's words
pub record Task : Type 0 where
  pub sels : Selections
  -- the digest names that were in each store when the call began
  pub each : List (List DigestName)
  -- those that are stored in any of them: these, and those that the call added, which stand in the first
  pub stored : Names
  pub vars : List Var
  pub user : List (List ℕ)

-- what the launch is lent
pub record Lent : Type 1 where
  -- the one that is written first, then those that are read besides
  pub stores : List Shelving
  pub spawner : Spawning

abbrev pub launching : Surroundings → Lent
launching s = record { stores = s.shelf ∷ s.others; spawner = s.spawner }

-- the folder of a stored tree: in the first store that had it, or in the store that is written where none had it
abbrev pub tree_folder : Task → List Shelving → DigestName → List ℕ
tree_folder task stores = stored_at stores (place task.each)

-- the folders of the selections
abbrev pub folders_in : Task → List Shelving → List (Option (List ℕ))
folders_in task stores = map (folder (tree_folder task stores) task.stored) task.sels.items

-- No tree is missing, and this is the plan of the launch, or why there is none, in the folders of the stores and with these folders of shims.
pub record IsPlan (task : Task) (stores : List Shelving) (shims : List (List ℕ)) (result : Result Launch PlanFault) : Type 0 where
  pub there : first_missing task.stored task.sels.items ≡ None
  pub plan : Plans task.sels task.vars task.user (folders_in task stores) shims result

-- before there are shims: an empty text for the folder of each
abbrev pub no_shims : Task → List Shelving → List (List ℕ)
no_shims task stores = empty_texts (shims_of task.sels (folders_in task stores))

-- The launch is planned, and these are the calls of its shims.
pub record IsCalled (task : Task) (stores : List Shelving) (calls : List ShimCall) : Type 0 where
  pub launch : Launch
  pub planned : IsPlan task stores (no_shims task stores) (Ok launch)
  pub words : ShimsOf task.sels task.vars (folders_in task stores) (Ok calls)

-- There is no plan; or there is one, and the words of a shim have a fault.
abbrev pub HasFault : Task → List Shelving → PlanFault → Type 0
HasFault task stores fault =
    IsPlan task stores (no_shims task stores) (Err fault)
    ⊎ (((launch : Launch) × IsPlan task stores (no_shims task stores) (Ok launch)) × ShimsOf task.sels task.vars (folders_in task stores) (Err fault))

-- the folders of the shims: where a tree of that digest stood when the call began, or in the store that is written
abbrev pub shim_folders : Task → List Shelving → List ShimCall → List (List ℕ)
shim_folders task stores calls = map (λ call. tree_folder task stores (shim_digest call)) calls

-- the trees that are verified: those of the selections, and then the shims
abbrev pub exposed_trees : Task → List ShimCall → List DigestName
exposed_trees task calls = trees_of task.stored task.sels.items ++ map shim_digest calls

-- What is selected is a package, which has no folder, or has a path of its own, or the tree that stands for it, under one of its digests, is
-- sound at the end.
abbrev pub IsExposed : Task → List Shelving → List Shelving → Selection → Type 0
IsExposed task before after x =
    IsSome x.«package» ⊎ (IsSome x.local ⊎ ((d : DigestName) × (tree_of task.stored x ≡ Some d) × Contains x.digests d × SoundAt (place task.each) before after d))

-- The launch is planned, no call of a store failed, and each tree that is exposed is sound: the folder of each selection but a package is its path
-- or that of a sound tree, and that of each shim is that of a sound tree, which says the words of the command where this call stored it.
pub record IsReady (task : Task) (tried : List Tried) (before : List Shelving) (launch : Launch) (after : List Shelving) : Type 0 where
  pub calls : List ShimCall
  pub called : IsCalled task before calls
  pub added : AddsInTurn task.stored calls tried
  pub planned : IsPlan task before (shim_folders task before calls) (Ok launch)
  pub calm : Each IsCalm before after
  pub sound : AreSound (place task.each) before after (exposed_trees task calls)
  pub exposed : All (IsExposed task before after) task.sels.items
  pub shims : All (λ call. InStore (place task.each (shim_digest call)) before after (λ b a. HeldThen b a (λ s. IsShim tried s call))) calls

-- Nothing is launched: a tree is missing, or the plan has a fault, or the words of a shim do, or a shim isn't added, or a tree isn't found
-- sound, or memory was refused.
abbrev pub LacksTree : Task → List Shelving → Outcome → List Shelving → Type 0
LacksTree task before outcome after = LacksFolder (first_missing task.stored task.sels.items) outcome × Each IsCalm before after

abbrev pub HasNoPlan : Task → List Shelving → Outcome → List Shelving → Type 0
HasNoPlan task before outcome after =
    (((fault : PlanFault) × (outcome ≡ Plan fault) × HasFault task before fault) ⊎ (outcome ≡ Memory)) × Each IsCalm before after

-- those before one are added, and that one isn't; no call of the other stores failed
pub record IsUnadded (task : Task) (tried : List Tried) (before : List Shelving) (outcome : Outcome) (after : List Shelving) : Type 0 where
  pub calls : List ShimCall
  pub called : IsCalled task before calls
  pub stops : StopsAdding task.stored calls outcome tried
  pub cost : CostsFirst tried before after

-- all are added, and a tree isn't found sound
pub record IsUnsound (task : Task) (tried : List Tried) (before : List Shelving) (outcome : Outcome) (after : List Shelving) : Type 0 where
  pub calls : List ShimCall
  pub called : IsCalled task before calls
  pub added : AddsInTurn task.stored calls tried
  pub stops : StopsVerifying (place task.each) (exposed_trees task calls) before outcome after

-- all are added, and then memory was refused
pub record LacksMemory (task : Task) (tried : List Tried) (before : List Shelving) (outcome : Outcome) (after : List Shelving) : Type 0 where
  pub is : outcome ≡ Memory
  pub calls : List ShimCall
  pub called : IsCalled task before calls
  pub added : AddsInTurn task.stored calls tried
  pub calm : Each IsCalm before after

abbrev pub PreparesNot : Task → List Tried → List Shelving → Outcome → List Shelving → Type 0
PreparesNot task tried before outcome after =
    ((tried ≡ []) × (LacksTree task before outcome after ⊎ HasNoPlan task before outcome after))
    ⊎ (IsUnadded task tried before outcome after ⊎ (IsUnsound task tried before outcome after ⊎ LacksMemory task tried before outcome after))

abbrev pub Prepares : Task → List Tried → List Shelving → Result Launch Outcome → List Shelving → Type 0
Prepares task tried before (Ok launch) after = IsReady task tried before launch after
Prepares task tried before (Err outcome) after = PreparesNot task tried before outcome after

-- what was tried to be added, and that is all that was done to the stores: they were else only read
pub record PreparesWith (task : Task) (before : List Shelving) (result : Result Launch Outcome) (after : List Shelving) : Type 0 where
  pub tried : List Tried
  pub prepares : Prepares task tried before result after
  pub works : WorksOn tried before after

-- The program ran to its status, or it wasn't started, or memory was refused before.
abbrev pub Starts : Launch → Spawning → Spawning → Outcome → Type 0
Starts launch before after (Child status) = Launches before launch (Ok status) after
Starts launch before after SpawnFault = Launches before launch (Err spawn.Failed) after
Starts launch before after Memory = Launches before launch (Err spawn.Memory) after
Starts launch before after other = ⊥

-- A launch that was made ready is started; or there is none, and this is the outcome.
abbrev pub StartsThen : Result Launch Outcome → Spawning → Spawning → Outcome → Type 0
StartsThen (Ok launch) before after outcome = Starts launch before after outcome
StartsThen (Err work) before after outcome = (outcome ≡ work) × (after ≡ before)

-- Nothing is launched, or the launch is ready and is started, last of all.
abbrev pub LaunchesOver : Task → List Tried → Lent → Lent → Outcome → Type 0
LaunchesOver task tried before after outcome =
    (PreparesNot task tried before.stores outcome after.stores × (after.spawner ≡ before.spawner))
    ⊎ ((launch : Launch) × IsReady task tried before.stores launch after.stores × Starts launch before.spawner after.spawner outcome)

pub record LaunchesWith (task : Task) (before after : Lent) (outcome : Outcome) : Type 0 where
  pub tried : List Tried
  pub launches : LaunchesOver task tried before after outcome
  pub works : WorksOn tried before.stores after.stores

-- Parts of the work.

-- there is no plan of the launch, and this is why, or memory was refused
abbrev pub PlansNot : Selections → List Var → List (List ℕ) → List (Option (List ℕ)) → List (List ℕ) → Outcome → Type 0
PlansNot sels vars user folders shims outcome =
    ((fault : PlanFault) × (outcome ≡ Plan fault) × Plans sels vars user folders shims (Err fault)) ⊎ (outcome ≡ Memory)

-- the calls of the shims, or no plan, and this is why, or memory was refused
abbrev pub HasCalls : Selections → List Var → List (List ℕ) → List (Option (List ℕ)) → List ShimCall → Type 0
HasCalls sels vars user folders calls =
    ((launch : Launch) × Plans sels vars user folders (empty_texts (shims_of sels folders)) (Ok launch)) × ShimsOf sels vars folders (Ok calls)

abbrev pub HasNoCalls : Selections → List Var → List (List ℕ) → List (Option (List ℕ)) → Outcome → Type 0
HasNoCalls sels vars user folders outcome =
    ((fault : PlanFault) × (outcome ≡ Plan fault)
    × (Plans sels vars user folders (empty_texts (shims_of sels folders)) (Err fault)
    ⊎ (((launch : Launch) × Plans sels vars user folders (empty_texts (shims_of sels folders)) (Ok launch)) × ShimsOf sels vars folders (Err fault))))
    ⊎ (outcome ≡ Memory)
