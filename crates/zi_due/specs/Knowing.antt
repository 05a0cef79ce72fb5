-- What is known before a loading, and what a loading comes to, by what is held.
use Rattle.std.specs.Prelude.{◌≡◌, ◌⊎◌, ℕ, true, List, [], ◌∷◌, Option, Some, None, Result, Ok, Err}
use Rattle.zi_digest.specs.declared.DigestName.{DigestName}
use Rattle.zi_outside.specs.Views.{Holding}
use Rattle.zi_packages.specs.declared.types.Packages.{Packages}
use Rattle.zi_packages.specs.declared.fault.PackagesFault.TheVariants.{Bad}
use Rattle.zi_packages.specs.Table.{IsTableText, FaultMeans}
use Rattle.zi_shelf.specs.Told.{Told}
use Rattle.zi_store.specs.Stored.{NamesStored}
use Rattle.zi_words.specs.declared.request.Ask.{Ask}
use Rattle.zi_universe.specs.declared.types.Interface.{Interface}
use Rattle.zi_universe.specs.declared.fault.LoadFault.{LoadFault}
use Rattle.zi_universe.specs.Loading.{Loads, Refuses}
use Rattle.zi_universe.specs.Laws.{IsOfFeeds}
use Rattle.zi_outcome.specs.declared.outcome.Outcome.{Outcome}
use Rattle.zi_outcome.specs.declared.outcome.Outcome.TheVariants.{BadPackages}
use Rattle.zi_outcome.specs.Refused.{outcome_of}
use Rattle.zi_choosing.specs.declared.asked.Asked.{Asked}
use Rattle.zi_choosing.specs.declared.known.Known.{Known}
use Rattle.zi_choosing.specs.Table.{table_limit, no_packages}
use Rattle.zi_choosing.specs.Wanted.{requirement_of}
use Rattle.zi_choosing.specs.Loaded.{task_of}
use Rattle.zi_due.specs.Held.{Held}
use Rattle.zi_due.specs.Files.{got}

-- the digest names in each store
abbrev pub AreNames : List Told → List (List DigestName) → Type 0
AreNames [] [] = Unit {0}
AreNames (s ∷ ss) (names ∷ each) = NamesStored (Ok names) s.shelf × AreNames ss each
AreNames other others = ⊥

-- what the bytes of a table say
abbrev pub IsTable : Result (List ℕ) Outcome → Result Packages Outcome → Type 0
IsTable (Err why) result = result ≡ Err why
IsTable (Ok bytes) (Ok packages) = IsTableText bytes packages
IsTable (Ok bytes) (Err (BadPackages line)) = FaultMeans bytes (Bad line)
IsTable (Ok bytes) (Err other) = ⊥

-- The packages of the operating system, by the table in this file, or why they aren't known. Without a file there are none.
abbrev pub HasPackages : Option (List ℕ) → Holding → Result Packages Outcome → Type 0
HasPackages None holds result = result ≡ Ok no_packages
HasPackages (Some file) holds result = IsTable (got table_limit file (holds file)) result

-- this is known: the digest names in each store, and the packages
pub record IsKnown (asked : Asked) (held : Held) (known : Known) : Type 0 where
  pub names : AreNames held.stores known.each
  pub packages : HasPackages asked.table held.feeds (Ok known.packages)

-- Over what is known the loading is refused, by feeds that aren't there or have a fault, or by a limit.
pub record IsRefused (ask : Ask) (holds : Holding) (known : Known) (fault : LoadFault) : Type 0 where
  pub of_feeds : IsOfFeeds fault ≡ true
  pub refuses : Refuses (Some holds) (task_of known ask).req (task_of known ask).policy (task_of known ask).stored fault

abbrev pub IsLoaded : Ask → Holding → Known → List Interface → Type 0
IsLoaded ask holds known universe = Loads (Some holds) (task_of known ask).req (task_of known ask).policy (task_of known ask).stored universe

-- A loading comes to this outcome, or to this universe.
abbrev pub LoadsTo : Ask → Holding → Known → Result (List Interface) Outcome → Type 0
LoadsTo ask holds known (Err outcome) = (fault : LoadFault) × IsRefused ask holds known fault × (outcome ≡ outcome_of fault)
LoadsTo ask holds known (Ok universe) = IsLoaded ask holds known universe

-- So does the work before a choice: the table first, then the loading.
abbrev pub ComesTo : Asked → Held → Result (List Interface) Outcome → Type 0
ComesTo asked held result =
    ((outcome : Outcome) × HasPackages asked.table held.feeds (Err outcome) × (result ≡ Err outcome))
    ⊎ ((known : Known) × IsKnown asked held known × LoadsTo asked.ask held.feeds known result)
