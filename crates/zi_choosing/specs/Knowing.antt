-- What is known before loading, and how it is found out: the digest names in each store first, then the packages of the operating system.
use Rattle.std.specs.Prelude.{◌≡◌, ℕ, ◌⊎◌, List, [], Option, Result, Ok, Err}
use Rattle.std.specs.List.{flat_map}
use Rattle.zi_digest.specs.declared.DigestName.{DigestName}
use Rattle.zi_outside.specs.Views.{Feeding}
use Rattle.zi_shelf.specs.Shelving.{Shelving}
use Rattle.zi_store.specs.Stores.{Each, IsCalm, HaveNames}
use Rattle.zi_outcome.specs.declared.outcome.Outcome.{Outcome}
use Rattle.zi_world.specs.StoreRead.{StopsAt}
use Rattle.zi_choosing.specs.declared.known.Known.{Known}
use Rattle.zi_choosing.specs.Table.{HasTable, LacksTable}

-- the digest names in all stores, those of one behind those of the one before it
abbrev pub all_names : List (List DigestName) → List DigestName
all_names each = flat_map (λ (ns : List DigestName). ns) each

-- No store failed, and these are the digest names in each; or a store failed at its names, which are no tree's, or memory was refused.
abbrev pub AreNamed : List Shelving → List Shelving → Result (List (List DigestName)) Outcome → Type 0
AreNamed before after (Ok each) = Each IsCalm before after × HaveNames before each
AreNamed before after (Err outcome) = StopsAt [] before after outcome

-- what is asked before loading
pub record Sources : Type 1 where
  pub feeds : Feeding
  -- the one that is written first, then those that are read besides
  pub stores : List Shelving

-- The names in the stores aren't found out, and the feeds were asked for nothing; or they are, and then there is no table.
abbrev pub IsUnknown : Option (List ℕ) → Sources → Sources → Outcome → Type 0
IsUnknown table before after outcome =
    (AreNamed before.stores after.stores (Err outcome) × (after.feeds ≡ before.feeds))
    ⊎ ((each : List (List DigestName)) × AreNamed before.stores after.stores (Ok each) × LacksTable table before.feeds outcome after.feeds)

-- The names in the stores are found out, and then the packages, by the table in this file; or they aren't.
abbrev pub IsKnown : Option (List ℕ) → Sources → Sources → Result Known Outcome → Type 0
IsKnown table before after (Ok known) = AreNamed before.stores after.stores (Ok known.each) × HasTable table before.feeds known.packages after.feeds
IsKnown table before after (Err outcome) = IsUnknown table before after outcome

-- All this was found out, and then the feeds are as they are seen here.
pub record Starts (table : Option (List ℕ)) (before : Sources) (stores : List Shelving) : Type 0 where
  pub known : Known
  pub feeds : Feeding
  pub found : IsKnown table before (record { feeds = feeds; stores = stores }) (Ok known)
