-- What is due of a launch: a tree is missing, or the plan has a fault, or the words of a shim do, or a shim isn't added, or a tree isn't sound;
-- else the program starts.
use Rattle.std.specs.Prelude.{◌≡◌, ◌⊎◌, ℕ, zero, suc, List, [], ◌∷◌, ◌++◌, map, Bool, Option, Some, None, Result, Ok, Err, if◌then◌else◌, bytes_eq}
use Rattle.zi_digest.specs.declared.DigestName.{DigestName}
use Rattle.zi_digest.specs.Name.{spelling}
use Rattle.zi_outside.specs.declared.launch.Launch.{Launch}
use Rattle.zi_outside.specs.declared.var.Var.{Var}
use Rattle.zi_tree.specs.Dir.{Dir}
use Rattle.zi_shelf.specs.Names.{Name}
use Rattle.zi_shelf.specs.Told.{Told, tree_at}
use Rattle.zi_session.specs.Alone.{added}
use Rattle.zi_sels.specs.declared.types.Selections.{Selections}
use Rattle.zi_sels.specs.declared.fault.SelsFault.{SelsFault}
use Rattle.zi_sels.specs.Reading.{Says, HasFault}
use Rattle.zi_plan.specs.declared.fault.PlanFault.{PlanFault}
use Rattle.zi_plan.specs.declared.call.ShimCall.{ShimCall}
use Rattle.zi_plan.specs.Plans.{Plans}
use Rattle.zi_plan.specs.Shims.{ShimsOf, shims_of, empty_texts}
use Rattle.zi_outcome.specs.declared.outcome.Outcome.{Outcome}
use Rattle.zi_outcome.specs.declared.outcome.Outcome.TheVariants.{BadSels, MissingTree, Plan}
use Rattle.zi_opening.specs.Opening.{document_limit}
use Rattle.zi_world.specs.Places.{place}
use Rattle.zi_choosing.specs.Knowing.{all_names}
use Rattle.zi_fetching.specs.Known.{Names, names_of, is_known}
use Rattle.zi_launching.specs.Folders.{stored_folder, folder, first_missing}
use Rattle.zi_launching.specs.Shims.{dir_of, shim_digest}
use Rattle.zi_launching.specs.Launching.{Task, HasCalls, exposed_trees}
use Rattle.zi_due.specs.Due.{End, Comes, Starts}
use Rattle.zi_due.specs.Held.{Held}
use Rattle.zi_due.specs.Files.{got}
use Rattle.zi_due.specs.Trees.{or_next, EndsSound}
use Rattle.zi_due.specs.Knowing.{AreNames}
use Rattle.zi_due.specs.Turns.{InTurn, Addition, AddsInTurn}

-- the path of the store of this number, and the folders of the selections in the stores of these paths
abbrev pub root_in : List (List ℕ) → ℕ → List ℕ
root_in [] i = []
root_in (root ∷ roots) zero = root
root_in (root ∷ roots) (suc i) = root_in roots i

abbrev pub folders_by : Task → List (List ℕ) → List (Option (List ℕ))
folders_by task roots = map (folder (λ d. stored_folder (root_in roots (place task.each d)) d) task.stored) task.sels.items

-- The launch is planned, and these are the calls of its shims; or there is no plan, and this is why; or there is one, and the words of a shim have
-- this fault.
abbrev pub PlansCalls : Task → List (Option (List ℕ)) → Result (List ShimCall) PlanFault → Type 0
PlansCalls task folders (Ok calls) = HasCalls task.sels task.vars task.user folders calls
PlansCalls task folders (Err fault) =
    Plans task.sels task.vars task.user folders (empty_texts (shims_of task.sels folders)) (Err fault)
    ⊎ (((launch : Launch) × Plans task.sels task.vars task.user folders (empty_texts (shims_of task.sels folders)) (Ok launch)) × ShimsOf task.sels task.vars folders (Err fault))

-- the tree of a shim, which is added unless a store has its digest
abbrev pub has_shim : Names → ShimCall → Bool
has_shim stored call = is_known stored (shim_digest call)

abbrev pub GivesShim : ShimCall → Result Addition Outcome → Type 0
GivesShim call result = result ≡ Ok (record { name = shim_digest call; tree = dir_of call })

-- what stands under a name once these were added to a store that had nothing there: a tree with its manifest
abbrev pub tree_in : List Addition → Name → Option Dir
tree_in [] n = None
tree_in (a ∷ rest) n = if bytes_eq (spelling a.name) n then Some (added (spelling a.name) a.tree).tree else tree_in rest n

-- the tree under a name in the store of a number, once these were added to the first
abbrev pub tree_behind : ℕ → List Told → List Addition → Name → Option Dir
tree_behind i [] more n = None
tree_behind zero (s ∷ ss) more n = or_next (tree_at s n) (tree_in more n)
tree_behind (suc i) (s ∷ ss) more n = tree_behind i ss [] n

-- the tree that a digest stands for, in the store of its place, is verified as `store verify` does
abbrev pub EndsExposed : Task → List Told → List Addition → DigestName → Outcome → Type 0
EndsExposed task stores more d outcome = EndsSound d (tree_behind (place task.each d) stores more (spelling d)) outcome

-- Behind the plan: its fault; or the shims are added, then each tree that is exposed is sound, and then the program starts.
abbrev pub EndsPlanned : Task → List Told → List Addition → Result (List ShimCall) PlanFault → End → Type 0
EndsPlanned task stores fetched (Err fault) end = end ≡ Comes (Plan fault)
EndsPlanned task stores fetched (Ok calls) end =
    AddsInTurn has_shim GivesShim stores task.stored calls (λ shims e. InTurn (EndsExposed task stores (fetched ++ shims)) (exposed_trees task calls) (λ f. f ≡ Starts) e) end

-- What is due of selections over stores with these paths, to the first of which these were added: a tree is missing; or so it is behind the plan.
abbrev pub EndsThere : Task → List (List ℕ) → List Told → List Addition → Option DigestName → End → Type 0
EndsThere task roots stores fetched (Some d) end = end ≡ Comes (MissingTree (spelling d))
EndsThere task roots stores fetched None end = (result : Result (List ShimCall) PlanFault) × PlansCalls task (folders_by task roots) result × EndsPlanned task stores fetched result end

abbrev pub EndsStart : Task → List (List ℕ) → List Told → List Addition → End → Type 0
EndsStart task roots stores fetched end = EndsThere task roots stores fetched (first_missing task.stored task.sels.items) end

-- the document isn't got, or says no selections, or says these, and so it is of them
abbrev pub SelsThen : (Selections → End → Type 0) → Result (List ℕ) Outcome → End → Type 0
SelsThen Is (Err why) end = end ≡ Comes why
SelsThen Is (Ok bytes) end =
    ((fault : SelsFault) × HasFault bytes fault × (end ≡ Comes (BadSels fault))) ⊎ ((sels : Selections) × Says bytes sels × Is sels end)

-- over the digest names that the stores have
abbrev pub EndsSels : List Var → List (List ℕ) → Held → Selections → End → Type 0
EndsSels vars user held sels end =
    (each : List (List DigestName)) × AreNames held.stores each
    × EndsStart (record { sels = sels; each = each; stored = names_of (all_names each); vars = vars; user = user }) held.roots held.stores [] end

-- `launch`
abbrev pub EndsLaunch : List ℕ → List Var → List (List ℕ) → Held → End → Type 0
EndsLaunch file vars user held end = SelsThen (EndsSels vars user held) (got document_limit file (held.feeds file)) end
