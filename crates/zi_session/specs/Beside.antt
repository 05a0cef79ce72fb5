-- The invariant of the adders where names are being purged beside them. A name that is being purged may be renamed away at any moment,
-- so nothing is said of what an adder has under it; all else is as in the machine of adders alone, where no name is being purged.
use Rattle.std.specs.Prelude.{◌≡◌, ◌<◌, ℕ, true, false, List, length, Some, IsSome, slice_get}
use Rattle.zi_shelf.specs.Names.{Name, IsIn}
use Rattle.zi_shelf.specs.Shelved.{Top, Renamed, Shelved}
use Rattle.zi_shelf.specs.Crash.{names_before, removed, Source}
use Rattle.zi_session.specs.Machine.{Rules, Adder, Phase, Making, Filling, Settling, Renaming, Storing, Removing, Leaving, Ended, Stopped, Stored, Present, Crowded, Fault}
use Rattle.zi_session.specs.Law.{IsQuiet, IsSound}
use Rattle.zi_session.specs.Invariant.{owned, HoldsPart}

-- it isn't being purged
abbrev pub lasting : (Name → Type 0) → Name → Type 0
lasting is_purged n = is_purged n → ⊥

-- of the adders alone none is
abbrev pub none_purged : Name → Type 0
none_purged n = ⊥

-- the entry now under this name has had no digest name since the last settle of the top
abbrev pub IsFresh : {T W : Type 0} → Rules T W → Shelved T → Name → Type 0
IsFresh r s n = (d : Name) → r.is_digest d → IsIn d (names_before n s.pending) → ⊥

-- no rename from a digest name is pending
abbrev pub IsSealed : {T W : Type 0} → Rules T W → Shelved T → Type 0
IsSealed r s = (a b : Name) → IsIn (Renamed a b) s.pending → (r.is_digest a → ⊥)

-- the entry under this name is there, settled, a tree of that digest, which is being purged
pub record Carries {T W : Type 0} (r : Rules T W) (is_purged : Name → Type 0) (s : Shelved T) (n d : Name) : Type 0 where
  pub purged : is_purged d
  pub top : Top T
  pub there : s.tops n ≡ Some top
  pub settled : top.settled ≡ true
  pub named : r.is_named top.tree d

-- What a crash may bring back under digest names. Each entry that had one since the last settle of the top is there, whole: it is settled,
-- a tree of that digest, which is being purged. No entry that was removed since then had one.
pub record PendingFits {T W : Type 0} (r : Rules T W) (is_purged : Name → Type 0) (s : Shelved T) : Type 0 where
  pub had : (n d : Name) → r.is_digest d → IsIn d (names_before n s.pending) → Carries r is_purged s n d
  pub gone : (k : ℕ) (was : Source T) (d : Name) → slice_get (removed s.pending) k ≡ Some was → IsIn d was.names → (r.is_digest d → ⊥)

-- what the shelf holds for an adder that is there in its list of calls; what is said of its digest name, is said where that lasts
abbrev pub PhaseFits : {T W : Type 0} → Rules T W → (Name → Type 0) → Shelved T → Name → T → Phase → Type 0
PhaseFits r lasts s name tree (Making n) = n < r.tries
PhaseFits r lasts s name tree (Filling n k) = HoldsPart r s (r.works name tree) n k false
PhaseFits r lasts s name tree (Settling n) = HoldsPart r s (r.works name tree) n (length (r.works name tree)) false
PhaseFits r lasts s name tree (Renaming n) = HoldsPart r s (r.works name tree) n (length (r.works name tree)) true
PhaseFits r lasts s name tree Storing = lasts name → IsSome (s.tops name)
PhaseFits r lasts s name tree (Removing n) = (lasts name → IsSome (s.tops name)) × HoldsPart r s (r.works name tree) n (length (r.works name tree)) true
PhaseFits r lasts s name tree Leaving = lasts name → IsSome (s.tops name)
PhaseFits r lasts s name tree (Ended Stored) = lasts name → IsSome (s.tops name) × IsQuiet s name
PhaseFits r lasts s name tree (Ended Present) = lasts name → IsSome (s.tops name) × IsQuiet s name
PhaseFits r lasts s name tree (Ended Crowded) = Unit {0}
PhaseFits r lasts s name tree (Ended Fault) = Unit {0}
PhaseFits r lasts s name tree Stopped = Unit {0}

pub record AdderFits {T W : Type 0} (r : Rules T W) (lasts : Name → Type 0) (s : Shelved T) (a : Adder T) : Type 0 where
  pub digest : r.is_digest a.name
  pub named : r.begins a.tree a.name
  pub phase : PhaseFits r lasts s a.name a.tree a.phase
  -- what stands under its temporary name had no digest name
  pub fresh : (n : ℕ) → owned a.phase ≡ Some n → IsFresh r s (r.tmp n)

pub record AddersFit {T W : Type 0} (r : Rules T W) (is_purged : Name → Type 0) (s : Shelved T) (adders : List (Adder T)) : Type 0 where
  pub sound : IsSound r s
  pub pending : PendingFits r is_purged s
  pub each : (i : ℕ) (a : Adder T) → slice_get adders i ≡ Some a → AdderFits r (lasting is_purged) s a
  pub apart : (i j : ℕ) (a b : Adder T) (n : ℕ) → slice_get adders i ≡ Some a → slice_get adders j ≡ Some b → owned a.phase ≡ Some n → owned b.phase ≡ Some n → i ≡ j
