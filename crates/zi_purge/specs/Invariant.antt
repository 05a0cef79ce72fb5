-- The invariant of the machine with a purger. Of the adders it says what the crate of sessions says of adders beside whom names are
-- being purged.
use Rattle.std.specs.Prelude.{◌≡◌, ◌<◌, ◌≤◌, ℕ, true, List, Option, Some, None, IsSome, slice_get, ◌+◌}
use Rattle.zi_shelf.specs.Names.{Name, IsIn}
use Rattle.zi_shelf.specs.Shelved.{Top, Shelved}
use Rattle.zi_session.specs.Machine.{Rules, Adder}
use Rattle.zi_session.specs.Invariant.{owned}
use Rattle.zi_session.specs.Beside.{AddersFit, IsSealed}
use Rattle.zi_purge.specs.Machine.{Purger, Shared, Phase, Moving, Sealing, Clearing, Closing, Ended, Stopped, Done, Crowded, Fault, names, AreApart, Leads, Event}
use Rattle.zi_purge.specs.Law.{IsPurged}

-- no running adder owns this temporary name
abbrev pub IsUnowned : {T : Type 0} → List (Adder T) → ℕ → Type 0
IsUnowned {T} adders n = (i : ℕ) (a : Adder T) → slice_get adders i ≡ Some a → owned a.phase ≡ Some n → ⊥

-- the temporary name holds the tree of this digest name, with the mark
pub record Holds {T W : Type 0} (r : Rules T W) (s : Shelved T) (adders : List (Adder T)) (name : Name) (n : ℕ) : Type 0 where
  pub few : n < r.tries
  pub top : Top T
  pub there : s.tops (r.tmp n) ≡ Some top
  pub settled : top.settled ≡ true
  pub named : r.is_named top.tree name
  pub unowned : IsUnowned adders n

-- each of the names from this place on is there
abbrev pub AreLeft : {T : Type 0} → Shelved T → List Name → ℕ → Type 0
AreLeft s all k = (j : ℕ) (d : Name) → k ≤ j → slice_get all j ≡ Some d → IsSome (s.tops d)

-- what the shelf holds for a purger of these names that is there in its list of calls
abbrev pub PurgePhaseFits : {T W : Type 0} → Rules T W → Shelved T → List (Adder T) → List Name → Phase → Type 0
PurgePhaseFits r s adders all (Moving k n) = (n < r.tries) × IsSealed r s × AreLeft s all k
PurgePhaseFits r s adders all (Sealing k n) = ((d : Name) × (slice_get all k ≡ Some d) × Holds r s adders d n) × AreLeft s all (k + 1)
PurgePhaseFits r s adders all (Clearing k n) = ((d : Name) × (slice_get all k ≡ Some d) × Holds r s adders d n) × IsSealed r s × AreLeft s all (k + 1)
PurgePhaseFits r s adders all Closing = IsSealed r s
-- once it answered Done no rename of its own is pending
PurgePhaseFits r s adders all (Ended Done) = IsSealed r s
PurgePhaseFits r s adders all (Ended Crowded) = Unit {0}
PurgePhaseFits r s adders all (Ended Fault) = Unit {0}
PurgePhaseFits r s adders all Stopped = Unit {0}

pub record PurgerFits {T W : Type 0} (r : Rules T W) (s : Shelved T) (adders : List (Adder T)) (p : Purger) : Type 0 where
  pub digest : (n : Name) → IsIn n (names p) → r.is_digest n
  pub apart : AreApart (names p)
  pub phase : PurgePhaseFits r s adders (names p) p.phase

-- without a purger no rename from a digest name is pending
abbrev pub PurgingFits : {T W : Type 0} → Rules T W → Shelved T → List (Adder T) → Option Purger → Type 0
PurgingFits r s adders None = IsSealed r s
PurgingFits r s adders (Some p) = PurgerFits r s adders p

pub record Inv {T W : Type 0} (r : Rules T W) (s : Shared T) : Type 0 where
  pub adders : AddersFit r (IsPurged s.purger) s.world.shelf s.world.adders
  pub purger : PurgingFits r s.world.shelf s.world.adders s.purger

-- every event keeps the invariant
abbrev pub IsKept : {T W : Type 0} → Rules T W → Type 0
IsKept {T} r = (old new : Shared T) (event : Event T) → Inv r old → Leads r old event new → Inv r new
