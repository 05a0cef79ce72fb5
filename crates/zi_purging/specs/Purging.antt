-- What the purge of a store answers, and what was done to the shelf.
use Rattle.std.specs.Prelude.{◌≡◌, ◌≤◌, ◌⊎◌, ℕ, List, [], map, Option, Some, None, Result, Ok, Err}
use Rattle.zi_text.specs.Count.{Rose}
use Rattle.zi_tree.specs.Dir.{Dir}
use Rattle.zi_digest.specs.declared.DigestName.{DigestName}
use Rattle.zi_digest.specs.Name.{spelling}
use Rattle.zi_shelf.specs.Names.{Name}
use Rattle.zi_shelf.specs.Shelved.{Shelved}
use Rattle.zi_shelf.specs.Shelving.{Shelving, Stays}
use Rattle.zi_shelf.specs.Told.{Told}
use Rattle.zi_store.specs.Keeping.{Grows, Keeps, is_names}
use Rattle.zi_store.specs.Stores.{Fails, IsCalm, HasNames}
use Rattle.zi_session.specs.Phases.{blamed_name}
use Rattle.zi_purge.specs.Alone.{AreTaken}
use Rattle.zi_purge.specs.Blaming.{blamed}
use Rattle.zi_purge.specs.Stepping.{Standing, standing, at_start}
use Rattle.zi_purge.specs.declared.purge.Purge.{Purge}
use Rattle.zi_purge.specs.declared.step.PurgeStep.{PurgeStep}
use Rattle.zi_purge.specs.declared.step.PurgeStep.TheVariants as step
use Rattle.zi_purging.specs.declared.purging.PurgeFault.{PurgeFault}
use Rattle.zi_purging.specs.declared.purging.PurgeFault.TheVariants as fault
use Rattle.zi_purging.specs.Running.{CallsToEnd, IsEnd, IsRun}
use Rattle.zi_purging.specs.Purged.{Purged, Spared, Spares}

-- its names were asked for, and nothing else was done
pub record OnlyNamed (s t : Told) : Type 0 where
  pub same : t.shelf ≡ s.shelf
  pub grows : Grows is_names s.calls t.calls

-- its names were asked for, and then a purger made its calls, one after the other
pub record WorksThrough (kept there : List Name) (answer : PurgeStep) (end : Standing) (s t : Told) : Type 0 where
  pub mid : Told
  pub named : OnlyNamed s mid
  pub calls : CallsToEnd (at_start kept there) mid answer end t

-- what stands in the store at the end, by the answer
abbrev pub Leaves : List Name → List Name → PurgeStep → Shelved Dir → Shelved Dir → Type 0
Leaves kept gone step.Done s t = Purged kept gone s t
-- each temporary name was taken
Leaves kept gone (step.Crowded tried) s t = AreTaken 10000 s.tops
Leaves kept gone other s t = Unit {0}

-- so it is of an honest shelf that tells what it holds, where the purger took away names of those that were there
pub record LeavesOver (kept there gone : List Name) (answer : PurgeStep) (end : Standing) (before after : Shelving) (s : Told) : Type 0 where
  pub told : Told
  pub tells : after.told ≡ Some told
  pub works : WorksThrough kept there answer end s told
  pub spared : Spared kept s.shelf told.shelf
  pub leaves : Leaves kept gone answer s.shelf told.shelf

-- a fault is answered where the shelf failed, as a sure one never does, and any other answer where no call of it did
abbrev pub Costs : PurgeStep → Shelving → Shelving → Type 0
Costs (step.Fault tmp) before after = Fails before after
Costs other before after = IsCalm before after

-- One purger took away what was there but for what is kept, up to this answer of its last step: that and the asking for the names are
-- all that was done.
pub record HasPurged (kept : List Name) (before after : Shelving) (answer : PurgeStep) (gone : List Name) : Type 0 where
  pub there : List DigestName
  pub names : HasNames before there
  pub end : Standing
  pub is : end.gone ≡ gone
  pub ends : IsEnd answer end
  pub leaves : (s : Told) → before.honest → before.told ≡ Some s → LeavesOver kept (map spelling there) gone answer end before after s
  pub cost : Costs answer before after
  pub later : before.faults ≤ after.faults
  pub stays : Stays before after

-- some names may be gone
abbrev pub Purges : List Name → Shelving → Shelving → PurgeStep → Type 0
Purges kept before after answer = (gone : List Name) × HasPurged kept before after answer gone

-- The names that were there but for the kept ones are gone, and this purger took them away; or why not.
abbrev pub PurgesTo : List Name → Shelving → Result Purge PurgeFault → Shelving → Type 0
PurgesTo kept before (Ok p) after = HasPurged kept before after step.Done (standing p).gone
-- every temporary name was there
PurgesTo kept before (Err (fault.Crowded tried)) after = (tried ≡ 10000) × Purges kept before after (step.Crowded tried)
-- the shelf failed at the asking for its names, or at a call of the purger
PurgesTo kept before (Err (fault.Failed blame)) after =
    ((blame ≡ []) × Fails before after × Keeps is_names before after)
    ⊎ ((tmp : Option ℕ) × (blame ≡ blamed_name tmp) × Purges kept before after (step.Fault tmp))
-- memory was refused before the purger began, or in a step that was then the last
PurgesTo kept before (Err fault.Memory) after = (IsCalm before after × Keeps is_names before after) ⊎ Purges kept before after step.Memory

-- Whatever it comes to, kept names have what they had.
pub record PurgesStore (kept : List Name) (before : Shelving) (result : Result Purge PurgeFault) (after : Shelving) : Type 0 where
  pub comes : PurgesTo kept before result after
  pub spares : Spares kept before after
  pub later : before.faults ≤ after.faults
  pub stays : Stays before after

-- Parts of the work.

-- what the last step comes to
abbrev pub Closes : Purge → PurgeStep → Result Purge PurgeFault → Type 0
Closes x step.Done result = result ≡ Ok x
Closes x (step.Crowded tried) result = result ≡ Err (fault.Crowded tried)
Closes x (step.Fault tmp) result = result ≡ Err (fault.Failed (blamed_name (blamed x)))
Closes x step.Memory result = result ≡ Err fault.Memory
Closes x step.More result = ⊥
Closes x step.Over result = ⊥

-- nothing was done to it
pub record Idle (before after : Shelving) : Type 0 where
  pub told : after.told ≡ before.told
  pub faults : after.faults ≡ before.faults
  pub stays : Stays before after

-- a purger of these names ran, to this answer
abbrev pub Runs : List Name → List Name → Shelving → Shelving → PurgeStep → Type 0
Runs kept there before after answer = (end : Standing) × IsRun (at_start kept there) before answer end after

abbrev pub TakesAway : List Name → List Name → Shelving → Result Purge PurgeFault → Shelving → Type 0
TakesAway kept there before (Ok p) after = IsRun (at_start kept there) before step.Done (standing p) after
TakesAway kept there before (Err (fault.Crowded tried)) after = Runs kept there before after (step.Crowded tried)
TakesAway kept there before (Err (fault.Failed blame)) after = (tmp : Option ℕ) × (blame ≡ blamed_name tmp) × Runs kept there before after (step.Fault tmp)
TakesAway kept there before (Err fault.Memory) after = Idle before after ⊎ Runs kept there before after step.Memory
