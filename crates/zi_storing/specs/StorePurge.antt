-- `store purge`: the files are read, and of the store that is written each tree is taken away whose digest no selection in them has.
use Rattle.std.specs.Prelude.{◌≡◌, ◌⊎◌, List, map, Err}
use Rattle.zi_digest.specs.declared.DigestName.{DigestName}
use Rattle.zi_digest.specs.Name.{spelling}
use Rattle.zi_outside.specs.Views.{Sinking, holding}
use Rattle.zi_outside.specs.Outside.{Writes, WritesFront}
use Rattle.zi_shelf.specs.Names.{Name}
use Rattle.zi_shelf.specs.Shelving.{Shelving}
use Rattle.zi_store.specs.Stores.{Each}
use Rattle.zi_purge.specs.declared.step.PurgeStep.TheVariants as step
use Rattle.zi_purging.specs.Purged.{Spares}
use Rattle.zi_purging.specs.Purging.{HasPurged, PurgesTo}
use Rattle.zi_purging.specs.declared.purging.PurgeFault.{PurgeFault}
use Rattle.zi_purging.specs.declared.purging.PurgeFault.TheVariants as fault
use Rattle.zi_words.specs.Forms.{Word}
use Rattle.zi_sels.specs.declared.types.Selections.{Selections}
use Rattle.zi_opening.specs.Files.{digests_of, AreRead, ReadsAll, ReadsNot}
use Rattle.zi_outcome.specs.declared.outcome.Outcome.{Outcome}
use Rattle.zi_outcome.specs.declared.outcome.Outcome.TheVariants.{Done, Crowded, StoreFault, SinkFault, Memory}
use Rattle.zi_outcome.specs.Writing.{StopsShort}
use Rattle.zi_world.specs.Asking.{FeedsStay}
use Rattle.zi_world.specs.Shelves.{Untouched, Lasts}
use Rattle.zi_world.specs.World.{World}
use Rattle.zi_storing.specs.StoreList.{names_text}

-- the names that are kept: every digest of a selection, spelled
abbrev pub kept_by : List Selections → List Name
kept_by all = map spelling (digests_of all)

-- what the purge is lent besides the feeds
pub record Lent : Type 1 where
  pub shelf : Shelving
  pub out : Sinking

abbrev pub lent : World → Lent
lent world = record { shelf = world.shelf; out = world.out }

-- nothing was written
abbrev pub WritesNothing : Lent → Lent → Type 0
WritesNothing before after = after.out ≡ before.out

-- A file isn't got, or isn't right, or memory was refused before all were read. No call of the store was made.
pub record ReadsNone (files : List Word) (before after : World) (outcome : Outcome) : Type 0 where
  pub why : ReadsNot files before.feeds outcome after.feeds
  pub shelf : Untouched before.shelf after.shelf
  pub nothing : WritesNothing (lent before) (lent after)

-- one purger took away what was there but for what is kept, to its end, and these names are gone
abbrev pub TakesAll : List Name → List DigestName → Lent → Lent → Type 0
TakesAll kept gone before after = HasPurged kept before.shelf after.shelf step.Done (map spelling gone)

-- it came to no end, and nothing was written
abbrev pub FailsToPurge : List Name → Lent → Lent → PurgeFault → Type 0
FailsToPurge kept before after why = PurgesTo kept before.shelf (Err why) after.shelf × WritesNothing before after

-- the outcomes where these names are kept
abbrev pub PurgesBut : List Name → Lent → Lent → Outcome → Type 0
-- the others are gone, and their names were written, in byte order, each on a line
PurgesBut kept before after Done = (gone : List DigestName) × TakesAll kept gone before after × Writes before.out (names_text gone) after.out
PurgesBut kept before after (Crowded tried) = FailsToPurge kept before after (fault.Crowded tried)
PurgesBut kept before after (StoreFault blame) = FailsToPurge kept before after (fault.Failed blame)
-- they are gone, and the output failed
PurgesBut kept before after SinkFault = (gone : List DigestName) × TakesAll kept gone before after × WritesFront before.out (names_text gone) after.out
-- memory was refused before they were gone, or in the writing of their names
PurgesBut kept before after Memory =
    FailsToPurge kept before after fault.Memory ⊎ ((gone : List DigestName) × TakesAll kept gone before after × StopsShort before.out (names_text gone) after.out)
PurgesBut kept before after other = ⊥

-- All files were got and are right, and what their selections have is kept. Whatever the outcome, each kept name has what it had, each other
-- digest name that or nothing, and nothing else has changed but temporary entries.
pub record PurgesRead (files : List Word) (before after : World) (outcome : Outcome) : Type 0 where
  pub all : List Selections
  pub read : ReadsAll files before.feeds all after.feeds
  pub purges : PurgesBut (kept_by all) (lent before) (lent after) outcome
  pub spares : Spares (kept_by all) before.shelf after.shelf
  pub shelf : Lasts before.shelf after.shelf

-- All files are read first, in their order, and then the store is asked; no call of another store is made.
pub record PurgesFiles (files : List Word) (before after : World) (outcome : Outcome) : Type 0 where
  pub feeds : FeedsStay before.feeds after.feeds
  pub comes : ReadsNone files before after outcome ⊎ PurgesRead files before after outcome
  pub others : Each Untouched before.others after.others

-- what a selection in a file has keeps its tree, and each other digest name has its own or none
pub record SparesNamed (files : List Word) (before after : World) : Type 0 where
  pub all : List Selections
  pub read : AreRead (holding before.feeds) files all
  pub spares : Spares (kept_by all) before.shelf after.shelf

-- Parts of the work.

-- the outcome of a purge that came to no end
abbrev pub purge_outcome : PurgeFault → Outcome
purge_outcome (fault.Crowded tried) = Crowded tried
purge_outcome (fault.Failed blame) = StoreFault blame
purge_outcome fault.Memory = Memory
