-- Shims are added to the store that is written: the small programs that make commands available, each a tree with one file under its digest.
use Rattle.std.specs.Prelude.{◌≡◌, ◌≤◌, ◌⊎◌, ℕ, true, false, List, [], ◌∷◌, ◌++◌, map, take, slice_get, Some, All, Contains, Result, Ok, Err, pos}
use Rattle.zi_digest.specs.declared.DigestName.{DigestName}
use Rattle.zi_digest.specs.declared.Algorithm.TheVariants.{Sha256new}
use Rattle.zi_digest.specs.Name.{spelling}
use Rattle.zi_tree.specs.Dir.{Dir, AFile, Nothing}
use Rattle.zi_manifest.specs.Manifest.{as_read, digest_of}
use Rattle.zi_shelf.specs.Shelved.{Top, Shelved}
use Rattle.zi_shelf.specs.Shelving.{Shelving, Stays}
use Rattle.zi_shelf.specs.Told.{Told}
use Rattle.zi_shim.specs.Shim.{Says}
use Rattle.zi_shim.specs.Trees.{shim_dir}
use Rattle.zi_store.specs.Keeping.{Keeps, is_reading}
use Rattle.zi_store.specs.Stores.{Each, IsCalm}
use Rattle.zi_session.specs.declared.step.Step.TheVariants as step
use Rattle.zi_universe.specs.Naming.{with_one, joined}
use Rattle.zi_plan.specs.declared.call.ShimCall.{ShimCall}
use Rattle.zi_plan.specs.declared.fault.PlanFault.{PlanFault}
use Rattle.zi_plan.specs.declared.fault.PlanFault.TheVariants as plan
use Rattle.zi_adding.specs.declared.adding.AddFault.{AddFault}
use Rattle.zi_adding.specs.Trying.{Tried, HasEnded, RunInTurn, IsDone, Adds, CostsAll}
use Rattle.zi_adding.specs.Gains.{OnlyReads}
use Rattle.zi_adding.specs.Answers.{Ends}
use Rattle.zi_outcome.specs.declared.outcome.Outcome.{Outcome}
use Rattle.zi_outcome.specs.declared.outcome.Outcome.TheVariants.{Plan, Memory}
use Rattle.zi_fetching.specs.Known.{Names, is_known}
use Rattle.zi_fetching.specs.Fetching.{tried_names}
use Rattle.zi_fetching.specs.Outcomes.{unadded}
use Rattle.zi_launching.specs.Verifying.{IsSound}

-- the tree of a shim, and the name under which it is stored
abbrev pub dir_of : ShimCall → Dir
dir_of call = shim_dir call.name call.words

abbrev pub shim_digest : ShimCall → DigestName
shim_digest call = digest_of Sha256new (dir_of call)

-- It is added under its digest, or the name was there.
pub record IsShimAdded (call : ShimCall) (a : Tried) : Type 0 where
  pub name : a.name ≡ shim_digest call
  pub tree : a.tree ≡ dir_of call
  pub done : IsDone a

-- Call by call: one whose digest is stored is passed over; any other is added, and its digest is stored for all behind it.
abbrev pub AddsInTurn : Names → List ShimCall → List Tried → Type 0
AddsInTurn stored [] tried = tried ≡ []
AddsInTurn stored (call ∷ calls) tried =
    ((is_known stored (shim_digest call) ≡ true) × AddsInTurn stored calls tried)
    ⊎ ((is_known stored (shim_digest call) ≡ false)
    × ((a : Tried) × (rest : List Tried) × (tried ≡ a ∷ rest) × IsShimAdded call a × AddsInTurn (with_one stored (spelling a.name)) calls rest))

-- The calls before one were added; that one isn't known to be stored, and isn't added. Or memory was refused before the next was added.
pub record FailsAdding (stored : Names) (calls : List ShimCall) (outcome : Outcome) (tried : List Tried) : Type 0 where
  pub place : ℕ
  pub call : ShimCall
  pub here : slice_get calls place ≡ Some call
  pub done : List Tried
  pub in_turn : AddsInTurn stored (take place calls) done
  pub wanting : is_known (joined stored (tried_names done)) (shim_digest call) ≡ false
  pub last : List Tried
  pub all : tried ≡ done ++ last
  pub fault : AddFault
  pub is : outcome ≡ unadded fault
  pub ends : Ends (shim_digest call) (dir_of call) (Err fault) last

abbrev pub StopsAdding : Names → List ShimCall → Outcome → List Tried → Type 0
StopsAdding stored calls outcome tried =
    FailsAdding stored calls outcome tried ⊎ ((outcome ≡ Memory) × ((place : ℕ) × AddsInTurn stored (take place calls) tried))

-- What the folder of a shim holds: a tree that has the digest of the shim's; and where this call stored it, as it is read, one file,
-- executable, which says the words of the command.
pub record IsShim (tried : List Tried) (s : Shelved Dir) (call : ShimCall) : Type 0 where
  pub sound : IsSound s (shim_digest call)
  pub own : Contains tried (record { name = shim_digest call; tree = dir_of call; answer = step.Stored })
      → (e : Top Dir) × (s.tops (spelling (shim_digest call)) ≡ Some e) × (text : List ℕ) × (as_read e.tree ≡ AFile call.name text true (pos 0) Nothing) × Says text call.words

-- All that was done to a store: the sessions of these had their steps, one behind the other, and then it was read.
pub record AddsThenReads (tried : List Tried) (before after : Shelving) : Type 0 where
  pub ended : All HasEnded tried
  pub works : (s : Told) → before.honest → before.told ≡ Some s → (mid : Told) × (t : Told) × (after.told ≡ Some t) × RunInTurn tried s mid × OnlyReads mid t
  pub later : before.faults ≤ after.faults
  pub stays : Stays before after

-- so it was with the first store; the others were only read
abbrev pub WorksOn : List Tried → List Shelving → List Shelving → Type 0
WorksOn tried (b ∷ bs) (a ∷ as_) = AddsThenReads tried b a × Each (Keeps is_reading) bs as_
WorksOn tried before after = ⊥

-- a fault of the first store is that of a session, and the others didn't fail
abbrev pub CostsFirst : List Tried → List Shelving → List Shelving → Type 0
CostsFirst tried (b ∷ bs) (a ∷ as_) = CostsAll tried b a × Each IsCalm bs as_
CostsFirst tried before after = ⊥

-- Parts of the work.

-- the outcome of a plan that has a fault
abbrev pub unplanned : PlanFault → Outcome
unplanned plan.Memory = Memory
unplanned fault = Plan fault

-- one shim is passed over or added, and its digest is stored then; or it isn't
abbrev pub AddsOne : Names → ShimCall → Result DigestName Outcome → List Tried → Names → Type 0
AddsOne stored call (Ok name) tried then =
    (name ≡ shim_digest call)
    × (((is_known stored (shim_digest call) ≡ true) × (tried ≡ []) × (then ≡ stored))
    ⊎ ((is_known stored (shim_digest call) ≡ false) × ((a : Tried) × (tried ≡ a ∷ []) × IsShimAdded call a × (then ≡ with_one stored (spelling a.name)))))
AddsOne stored call (Err outcome) tried then =
    ((outcome ≡ Memory) × (tried ≡ []))
    ⊎ ((is_known stored (shim_digest call) ≡ false) × ((fault : AddFault) × (outcome ≡ unadded fault) × Ends (shim_digest call) (dir_of call) (Err fault) tried))

pub record AddsShim (stored : Names) (call : ShimCall) (before : Shelving) (result : Result DigestName Outcome) (then : Names) (after : Shelving) : Type 0 where
  pub tried : List Tried
  pub one : AddsOne stored call result tried then
  pub adds : Adds tried before after

-- all are added, and these are their digests; or one isn't
abbrev pub AddsTo : Names → List ShimCall → Result (List DigestName) Outcome → List Tried → Names → Type 0
AddsTo stored calls (Ok names) tried then = (names ≡ map shim_digest calls) × AddsInTurn stored calls tried × (then ≡ joined stored (tried_names tried))
AddsTo stored calls (Err outcome) tried then = StopsAdding stored calls outcome tried

pub record AddsShims (stored : Names) (calls : List ShimCall) (before : Shelving) (result : Result (List DigestName) Outcome) (then : Names) (after : Shelving) : Type 0 where
  pub tried : List Tried
  pub all : AddsTo stored calls result tried then
  pub adds : Adds tried before after
