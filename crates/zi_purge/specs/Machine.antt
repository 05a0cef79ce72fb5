-- The machine of one purger beside many adders over one shelf.
use Rattle.std.specs.Prelude.{◌≡◌, ℕ, ◌+◌, Bool, true, false, not, List, [], ◌∷◌, filter, length, map, Option, Some, None, option_map, if◌then◌else◌, nat_lt, slice_get, IsSome}
use Rattle.zi_shelf.specs.Names.{Name, IsIn}
use Rattle.zi_shelf.specs.Shelved.{Shelved, Call, Rename, SettleTop, RemoveTop, Reply, Did, Exists, Failed, Memory, Answers}
use Rattle.zi_shelf.specs.Crash.{CrashLeaves}
use Rattle.zi_store.specs.Rising.{is_among}
use Rattle.zi_session.specs.Machine.{Rules, Adder, World, touched, within}
use Rattle.zi_session.specs.Machine as adding

pub data Answer : Type 0 where
  Done : Answer
  Crowded : Answer
  Fault : Answer

-- Where a purger is in its list of calls. So many of its names are gone, and the one after them is tried under the temporary name
-- of this number.
pub data Phase : Type 0 where
  -- the name is to be renamed to the temporary name
  Moving : (gone number : ℕ) → Phase
  -- the rename is to be settled
  Sealing : (gone number : ℕ) → Phase
  -- the temporary entry is to be removed
  Clearing : (gone number : ℕ) → Phase
  -- the top is to be settled, as the last call
  Closing : Phase
  Ended : (answer : Answer) → Phase
  Stopped : Phase

pub record Purger : Type 0 where
  -- the names that are to stay
  pub kept : List Name
  -- the names that were there
  pub there : List Name
  pub phase : Phase

-- those that were there and aren't kept, in their order
abbrev pub purged : List Name → List Name → List Name
purged kept there = filter (λ n. not (is_among kept n)) there

-- the names that a purger takes away
abbrev pub names : Purger → List Name
names p = purged p.kept p.there

-- after so many of all names
abbrev pub moving : (all gone : ℕ) → Phase
moving all gone = if nat_lt gone all then Moving gone 0 else Closing

abbrev pub rename_call : {W : Type 0} → Option Name → Name → Option (Call W)
rename_call name tmp = option_map (λ n. Rename n tmp) name

-- the call that a purger of these names makes next
abbrev pub next_call : {W : Type 0} → (ℕ → Name) → List Name → Phase → Option (Call W)
next_call tmp all (Moving k n) = rename_call (slice_get all k) (tmp n)
next_call tmp all (Sealing k n) = Some SettleTop
next_call tmp all (Clearing k n) = Some (RemoveTop (tmp n))
next_call tmp all Closing = Some SettleTop
next_call tmp all (Ended a) = None
next_call tmp all Stopped = None

-- where it is after the reply to that call
abbrev pub next_phase : (tries all : ℕ) → Phase → Reply → Phase
next_phase tries all p Memory = p
next_phase tries all p Failed = Ended Fault
next_phase tries all (Moving k n) Did = Sealing k n
next_phase tries all (Moving k n) Exists = if nat_lt (n + 1) tries then Moving k (n + 1) else Ended Crowded
next_phase tries all (Sealing k n) Did = Clearing k n
next_phase tries all (Clearing k n) Did = moving all (k + 1)
next_phase tries all Closing Did = Ended Done
-- no other reply is given
next_phase tries all p reply = p

-- the shelf with its adders, and the purger once it has begun
pub record Shared (T : Type 0) : Type 0 where
  pub world : World T
  pub purger : Option Purger

-- one that has answered keeps its answer
abbrev pub halted : Phase → Phase
halted (Ended a) = Ended a
halted p = Stopped

abbrev pub stopped : Purger → Purger
stopped p = record p { phase = halted p.phase }

pub data Event (T : Type 0) : Type 0 where
  -- the beginning, a step or the stop of an adder
  Adding : (event : adding.Event T) → Event T
  -- the purger begins
  Purging : (kept there : List Name) → Event T
  -- its next call
  Purge : Event T
  -- it makes no more
  Halt : Event T
  Crash : Event T
  -- a crash within the next call of an adder, and within that of the purger, before the call has changed anything
  CrashIn : (number : ℕ) → Event T
  CrashInPurge : Event T

-- the purger makes its next call
pub record Purges {T W : Type 0} (r : Rules T W) (old new : Shared T) : Type 0 where
  pub purger : Purger
  pub is : old.purger ≡ Some purger
  pub call : Call W
  pub makes : next_call r.tmp (names purger) purger.phase ≡ Some call
  pub reply : Reply
  pub answers : Answers r.trees old.world.shelf call reply new.world.shelf
  pub adders : new.world.adders ≡ old.world.adders
  pub goes : new.purger ≡ Some (record purger { phase = next_phase r.tries (length (names purger)) purger.phase reply })

-- a crash of the shelf with this entry unsettled stops all
pub record Crashes {T : Type 0} (old new : Shared T) (unsettled : Option Name) : Type 0 where
  pub leaves : CrashLeaves (within old.world.shelf unsettled) new.world.shelf.tops
  pub pending : new.world.shelf.pending ≡ []
  pub adders : new.world.adders ≡ map adding.stopped old.world.adders
  pub purger : new.purger ≡ option_map stopped old.purger

-- each name once
abbrev pub AreApart : List Name → Type 0
AreApart [] = Unit {0}
AreApart (n ∷ ns) = (IsIn n ns → ⊥) × AreApart ns

-- digest names that are there, each once
pub record AreThere {T W : Type 0} (r : Rules T W) (s : Shelved T) (there : List Name) : Type 0 where
  pub digest : (n : Name) → IsIn n there → r.is_digest n
  pub stand : (n : Name) → IsIn n there → IsSome (s.tops n)
  pub apart : AreApart there

abbrev pub begun : List Name → List Name → Purger
begun kept there = record { kept = kept; there = there; phase = moving (length (purged kept there)) 0 }

-- what an event may lead to
abbrev pub Leads : {T W : Type 0} → Rules T W → Shared T → Event T → Shared T → Type 0
Leads r old (Adding e) new = (adding.is_crash e ≡ false) × adding.Leads r old.world e new.world × (new.purger ≡ old.purger)
-- at most one
Leads r old (Purging kept there) new = (old.purger ≡ None) × AreThere r old.world.shelf there × (new.world ≡ old.world) × (new.purger ≡ Some (begun kept there))
Leads r old Purge new = Purges r old new
Leads r old Halt new = (p : Purger) × (old.purger ≡ Some p) × (new.world ≡ old.world) × (new.purger ≡ Some (stopped p))
Leads r old Crash new = Crashes old new None
Leads {T} {W} r old (CrashIn i) new =
    (a : Adder T) × (slice_get old.world.adders i ≡ Some a) × (call : Call W) × (adding.next_call r.tmp (r.works a.name a.tree) a.name a.phase ≡ Some call)
    × Crashes old new (touched call)
Leads {T} {W} r old CrashInPurge new =
    (p : Purger) × (old.purger ≡ Some p) × (call : Call W) × (next_call r.tmp (names p) p.phase ≡ Some call) × Crashes old new (touched call)

abbrev pub is_crash : {T : Type 0} → Event T → Bool
is_crash Crash = true
is_crash (CrashIn i) = true
is_crash CrashInPurge = true
is_crash event = false

-- a whole list of events
abbrev pub Runs : {T W : Type 0} → Rules T W → Shared T → List (Event T) → Shared T → Type 0
Runs r old [] new = new ≡ old
Runs {T} r old (e ∷ es) new = (mid : Shared T) × Leads r old e mid × Runs r mid es new
