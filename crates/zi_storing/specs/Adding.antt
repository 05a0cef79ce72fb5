-- `store add`: the files are got, and the tree of them is added to the store that is written.
use Rattle.std.specs.Prelude.{◌≡◌, ℕ, ◌⊎◌, List, [], codes, Result, Ok, Err}
use Rattle.zi_digest.specs.declared.DigestName.{DigestName}
use Rattle.zi_outside.specs.Views.{Feeding, Sinking}
use Rattle.zi_outside.specs.Outside.{Writes, WritesFront}
use Rattle.zi_tree.specs.Dir.{Dir}
use Rattle.zi_store.specs.Stores.{Each}
use Rattle.zi_adding.specs.declared.adding.Added.{Added}
use Rattle.zi_adding.specs.declared.adding.Added.TheVariants as added
use Rattle.zi_adding.specs.declared.adding.AddFault.{AddFault}
use Rattle.zi_adding.specs.declared.adding.AddFault.TheVariants as fault
use Rattle.zi_adding.specs.Trying.{Tried, Adds}
use Rattle.zi_adding.specs.Answers.{Ends}
use Rattle.zi_adding.specs.Gains.{GainsOnly}
use Rattle.zi_words.specs.Forms.{Word}
use Rattle.zi_outcome.specs.declared.outcome.Outcome.{Outcome}
use Rattle.zi_outcome.specs.declared.outcome.Outcome.TheVariants.{Done, FeedRead, FeedTooLong, NoFile, Overlap, TreeTooLarge, BadName, Mismatch, Crowded, StoreFault, SinkFault, Memory}
use Rattle.zi_outcome.specs.Writing.{StopsShort}
use Rattle.zi_world.specs.Asking.{FeedsStay}
use Rattle.zi_world.specs.Shelves.{Untouched}
use Rattle.zi_world.specs.World.{World}
use Rattle.zi_storing.specs.declared.gathering.GatherFault.{GatherFault}
use Rattle.zi_storing.specs.declared.gathering.GatherFault.TheVariants as gather
use Rattle.zi_storing.specs.Gathering.{Gathers, IsUnread, IsAbsent, IsTooLong, IsTwice, IsTooLarge, GetsSome}

-- what the adding is lent besides the store
pub record LentToAdd : Type 0 where
  pub feeds : Feeding
  pub out : Sinking

abbrev pub lent : World → LentToAdd
lent world = record { feeds = world.feeds; out = world.out }

-- nothing was tried, and nothing was written
abbrev pub AddsNothing : List Tried → LentToAdd → LentToAdd → Type 0
AddsNothing tried before after = (tried ≡ []) × (after.out ≡ before.out)

-- There is a tree of the files, its adding under the name was answered so, and this was tried.
pub record AddsGathered (name : DigestName) (files : List Word) (tried : List Tried) (before after : Feeding) (answer : Result Added AddFault) : Type 0 where
  pub tree : Dir
  pub gathers : Gathers files before after tree
  pub ends : Ends name tree answer tried

-- it wasn't added, and nothing was written
abbrev pub FailsToAdd : DigestName → List Word → List Tried → LentToAdd → LentToAdd → AddFault → Type 0
FailsToAdd name files tried before after why = AddsGathered name files tried before.feeds after.feeds (Err why) × (after.out ≡ before.out)

-- the line of a tree that was stored, and of one whose name was there
abbrev pub added_line : Added → List ℕ
added_line added.Stored = codes "stored\n"
added_line added.Present = codes "present\n"

-- the outcomes
abbrev pub AddsTo : DigestName → List Word → List Tried → LentToAdd → LentToAdd → Outcome → Type 0
-- the tree was stored, or its name was there
AddsTo name files tried before after Done =
    (a : Added) × AddsGathered name files tried before.feeds after.feeds (Ok a) × Writes before.out (added_line a) after.out
-- the files are got in order, and the first that can't be got is told
AddsTo name files tried before after (FeedRead uri) = IsUnread files before.feeds after.feeds uri × AddsNothing tried before after
AddsTo name files tried before after (NoFile file) = IsAbsent files before.feeds after.feeds file × AddsNothing tried before after
AddsTo name files tried before after (FeedTooLong uri limit) = IsTooLong files before.feeds after.feeds uri limit × AddsNothing tried before after
-- then two with one name, the size of all, and their number
AddsTo name files tried before after (Overlap path) = IsTwice files before.feeds after.feeds path × AddsNothing tried before after
AddsTo name files tried before after (TreeTooLarge what limit) = IsTooLarge files before.feeds after.feeds what limit × AddsNothing tried before after
-- then the tree of them: a name in it is bad, it has another digest, every temporary name was there, or the shelf failed
AddsTo name files tried before after (BadName path) = FailsToAdd name files tried before after (fault.BadName path)
AddsTo name files tried before after (Mismatch right found) = FailsToAdd name files tried before after (fault.Mismatch right found)
AddsTo name files tried before after (Crowded number) = FailsToAdd name files tried before after (fault.Crowded number)
AddsTo name files tried before after (StoreFault blamed) = FailsToAdd name files tried before after (fault.Failed blamed)
-- the tree was stored or its name was there, and the output failed
AddsTo name files tried before after SinkFault =
    (a : Added) × AddsGathered name files tried before.feeds after.feeds (Ok a) × WritesFront before.out (added_line a) after.out
-- memory was refused in the getting of the files, in the adding of their tree, or in the writing of the line
AddsTo name files tried before after Memory =
    (GetsSome files before.feeds after.feeds × AddsNothing tried before after)
    ⊎ (FailsToAdd name files tried before after fault.Memory
    ⊎ ((a : Added) × AddsGathered name files tried before.feeds after.feeds (Ok a) × StopsShort before.out (added_line a) after.out))
AddsTo name files tried before after other = ⊥

-- Whatever the outcome, the steps of the session of what was tried are all that was done to the store that is written, and its trees are as
-- before, but for one that may have come; no call of another store was made.
pub record AddsFiles (name : DigestName) (files : List Word) (before after : World) (outcome : Outcome) : Type 0 where
  pub feeds : FeedsStay before.feeds after.feeds
  pub tried : List Tried
  pub comes : AddsTo name files tried (lent before) (lent after) outcome
  pub shelf : Adds tried before.shelf after.shelf
  pub stored : GainsOnly tried before.shelf after.shelf
  pub others : Each Untouched before.others after.others

-- Parts of the work.

-- the outcome where there is no tree of the files
abbrev pub files_outcome : GatherFault → Outcome
files_outcome (gather.Read file) = FeedRead file
files_outcome (gather.Absent file) = NoFile file
files_outcome (gather.TooLong file limit) = FeedTooLong file limit
files_outcome (gather.Twice name) = Overlap name
files_outcome (gather.TooLarge what limit) = TreeTooLarge what limit
files_outcome gather.Memory = Memory
