-- One step on the way through the feeds of an interface.
use Rattle.std.specs.Prelude.{◌≡◌, ℕ, List, slice_get, Option, Some}
use Rattle.zi_policy.specs.declared.types.Policy.{Policy}
use Rattle.zi_feed.specs.declared.feed.Feed.{Feed}
use Rattle.zi_outside.specs.Views.{Holding}
use Rattle.zi_universe.specs.declared.fault.LoadFault.{LoadFault}
use Rattle.zi_universe.specs.Naming.{Uri, Uris, joined}
use Rattle.zi_universe.specs.Tables.{imports_at}
use Rattle.zi_universe.specs.Stages.{GetsOnce, StopsOnce}

-- The member of a list at a place was looked at: its feed is in the table, and what it imports is in the list.
pub record ListsNext (told : Option Holding) (root : Uri) (p : Policy) (place : ℕ) (here there : Uris) (old new : List Feed) : Type 0 where
  pub uri : Uri
  pub turn : slice_get here place ≡ Some uri
  pub gets : GetsOnce told root p uri old new
  pub more : there ≡ joined here (imports_at p new uri)

-- the feed of the member at a place is refused
pub record StopsNext (told : Option Holding) (root : Uri) (place : ℕ) (here : Uris) (old : List Feed) (e : LoadFault) : Type 0 where
  pub uri : Uri
  pub turn : slice_get here place ≡ Some uri
  pub stops : StopsOnce told root uri old e
