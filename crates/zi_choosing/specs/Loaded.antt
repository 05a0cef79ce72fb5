-- What the commands that load a universe have in common: what the words ask for, over the names in the stores and the packages.
use Rattle.std.specs.Prelude.{◌≡◌, ℕ, ◌<◌, ◌≤◌, ◌⊎◌, List, Option}
use Rattle.zi_outside.specs.Views.{Feeding, Sinking}
use Rattle.zi_store.specs.Keeping.{Keeps, is_names}
use Rattle.zi_store.specs.Stores.{Each}
use Rattle.zi_words.specs.declared.request.Ask.{Ask}
use Rattle.zi_universe.specs.declared.types.Interface.{Interface}
use Rattle.zi_universe.specs.declared.types.Requirement.{Requirement}
use Rattle.zi_universe.specs.declared.fault.LoadFault.{LoadFault}
use Rattle.zi_universe.specs.declared.fault.LoadFault.TheVariants as load
use Rattle.zi_universe.specs.Loading.{names_of, Task, LoadsAsking, RefusesAsking}
use Rattle.zi_build.specs.declared.building.BuildFault.{BuildFault}
use Rattle.zi_build.specs.declared.building.BuildFault.TheVariants as build
use Rattle.zi_build.specs.Clauses.{formula, literals, most_literals}
use Rattle.zi_outcome.specs.declared.outcome.Outcome.{Outcome}
use Rattle.zi_outcome.specs.declared.outcome.Outcome.TheVariants.{FeedRead, NoRootFeed, BadFeed, FeedTooLong, TooManyFeeds, TooManyInterfaces, TooManyCandidates, TooLarge, Memory}
use Rattle.zi_world.specs.Asking.{FeedsStay}
use Rattle.zi_world.specs.World.{World, all_stores, NothingWritten}
use Rattle.zi_choosing.specs.declared.known.Known.{Known}
use Rattle.zi_choosing.specs.Knowing.{all_names, Sources, IsUnknown, Starts}
use Rattle.zi_choosing.specs.Wanted.{requirement_of}

-- what the words ask for, over what is known
abbrev pub task_of : Known → Ask → Task
task_of known ask = record { req = requirement_of ask; policy = ask.policy; stored = names_of (all_names known.each) known.packages }

-- the loading of that gives these interfaces, the root first
abbrev pub IsLoaded : Known → Ask → Feeding → Feeding → List Interface → Type 0
IsLoaded known ask before after universe = LoadsAsking (task_of known ask) before universe after

-- the loading of that is refused with this fault
abbrev pub IsRefused : Known → Ask → Feeding → Feeding → LoadFault → Type 0
IsRefused known ask before after fault = RefusesAsking (task_of known ask) before fault after

-- This is so of the fault of which the outcome tells, where it tells that a loading was refused, for anything but want of memory.
abbrev pub IsUnloaded : (LoadFault → Type 0) → Outcome → Type 0
IsUnloaded Is (FeedRead uri) = Is (load.FeedRead uri)
IsUnloaded Is NoRootFeed = Is load.NoRootFeed
IsUnloaded Is (BadFeed uri fault) = Is (load.BadFeed uri fault)
IsUnloaded Is (FeedTooLong uri limit) = Is (load.FeedTooLong uri limit)
IsUnloaded Is (TooManyFeeds limit) = Is (load.TooManyFeeds limit)
IsUnloaded Is (TooManyInterfaces limit) = Is (load.TooManyInterfaces limit)
IsUnloaded Is (TooManyCandidates limit) = Is (load.TooManyCandidates limit)
IsUnloaded Is other = ⊥

-- the constraints on a choice from these interfaces have few enough literals
abbrev pub AreFew : List Interface → Requirement → Type 0
AreFew universe req = literals (formula universe req).constraints ≤ most_literals

-- they have more than this
abbrev pub AreMany : List Interface → Requirement → ℕ → Type 0
AreMany universe req limit = (limit ≡ most_literals) × (most_literals < literals (formula universe req).constraints)

-- the outcome where there is no formula
abbrev pub build_outcome : BuildFault → Outcome
build_outcome (build.TooLarge limit) = TooLarge limit
build_outcome build.Memory = Memory

-- what the work over what is known is lent
pub record Lent : Type 0 where
  pub feeds : Feeding
  pub out : Sinking

abbrev pub lent : World → Lent
lent world = record { feeds = world.feeds; out = world.out }

-- the loading was refused, and nothing was written
abbrev pub Refused : Known → Ask → Lent → Lent → LoadFault → Type 0
Refused known ask before after fault = IsRefused known ask before.feeds after.feeds fault × (after.out ≡ before.out)

-- the work over what is known
abbrev pub Over : Type 1
Over = Known → Lent → Lent → Outcome → Type 0

-- what is asked before it
abbrev pub sources : World → Sources
sources world = record { feeds = world.feeds; stores = all_stores world }

-- The names in the stores and the packages are found out, and the work is done over them; where they aren't, nothing is written.
abbrev pub FindsOut : Option (List ℕ) → Over → World → World → Outcome → Type 0
FindsOut table Does before after outcome =
    (IsUnknown table (sources before) (sources after) outcome × NothingWritten before after)
    ⊎ ((start : Starts table (sources before) (all_stores after)) × Does start.known (record { feeds = start.feeds; out = before.out }) (lent after) outcome)

-- The stores are asked for their names alone, and over these and the table in this file the work is done.
pub record DoesOver (table : Option (List ℕ)) (Does : Over) (before after : World) (outcome : Outcome) : Type 0 where
  pub feeds : FeedsStay before.feeds after.feeds
  pub stores : Each (Keeps is_names) (all_stores before) (all_stores after)
  pub answer : FindsOut table Does before after outcome
