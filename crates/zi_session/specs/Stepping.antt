-- What a step of a session does, and what a run does.
use Rattle.std.specs.Prelude.{◌≡◌, ◌+◌, ◌≤◌, ℕ, zero, suc, Bool, true, false, List, length, Option, None, Some}
use Rattle.zi_tree.specs.Dir.{Dir}
use Rattle.zi_shelf.specs.Shelved.{Shelved, Call, Reply, Did, Memory}
use Rattle.zi_shelf.specs.Filling.{Work, trees}
use Rattle.zi_shelf.specs.Told.{Told, Leads}
use Rattle.zi_shelf.specs.Shelving.{Shelving, Does}
use Rattle.zi_session.specs.Machine.{Phase, Making, Filling, Settling, Renaming, Storing, Removing, Leaving, Ended, Stopped, Stored, Present, Crowded, Fault, next_call, next_phase}
use Rattle.zi_session.specs.Made.{made}
use Rattle.zi_session.specs.Phases.{tmp_name, is_over}
use Rattle.zi_session.specs.Standing.{Standing, blamed, left}
use Rattle.zi_session.specs.declared.session.Session.{Session}
use Rattle.zi_session.specs.declared.step.Step.{Step}
use Rattle.zi_session.specs.declared.step.Step.TheVariants.{More, Stored as SaysStored, Present as SaysPresent, Crowded as SaysCrowded, Fault as SaysFault, Memory as SaysMemory, Over}

-- the number of the temporary name that the call of this phase names
abbrev pub named : Phase → Option ℕ
named (Making n) = Some n
named (Filling n k) = Some n
named (Settling n) = Some n
named (Renaming n) = Some n
named Storing = None
named (Removing n) = Some n
named Leaving = None
named (Ended a) = None
named Stopped = None

-- what is answered in phase p after a reply that leads to this phase
abbrev pub Says : Phase → Phase → Step → Type 0
Says p (Ended Stored) step = step ≡ SaysStored
Says p (Ended Present) step = step ≡ SaysPresent
Says p (Ended Crowded) step = step ≡ SaysCrowded 10000
Says p (Ended Fault) step = step ≡ SaysFault (named p)
Says p Stopped step = ⊥
Says p q step = step ≡ More

abbrev pub SaysOn : Phase → Reply → Phase → Step → Type 0
SaysOn p Memory q step = step ≡ SaysMemory
SaysOn p reply q step = Says p q step

-- An entry is left behind from the reply that it was made to the reply that it was renamed or removed.
abbrev pub residue_after : Phase → Reply → Option ℕ → Option ℕ
residue_after p Memory before = before
residue_after (Making n) Did before = Some n
residue_after (Renaming n) Did before = None
residue_after (Removing n) Did before = None
residue_after p reply before = before

-- where a session stands after this reply to its next call
abbrev pub moved : Standing → Reply → Standing
moved old reply = record { name = old.name; works = old.works; phase = next_phase 10000 (length old.works) old.phase reply; residue = residue_after old.phase reply old.residue }

-- A session makes the next call of its list, of which and of whose reply this holds, and goes on and answers as the reply says.
pub record MakesNext (old : Standing) (holds : Call Work → Reply → Type 0) (step : Step) (new : Standing) : Type 0 where
  pub call : Call Work
  pub next : next_call tmp_name old.works old.name old.phase ≡ Some call
  pub reply : Reply
  pub does : holds call reply
  pub goes : new ≡ moved old reply
  pub says : SaysOn old.phase reply new.phase step

-- A step is the next call of the shelf. One that lacks memory itself makes none, which is as the reply Memory: nothing changes.
abbrev pub IsStep : Standing → Shelving → Step → Standing → Shelving → Type 0
IsStep old before step new after = MakesNext old (λ call reply. Does before call reply after) step new

-- the same over what an honest shelf tells before and after
abbrev pub Calls : Standing → Told → Step → Standing → Told → Type 0
Calls old before step new after = MakesNext old (λ call reply. Leads before call reply after) step new

-- the same whatever the shelf
abbrev pub Goes : Standing → Step → Standing → Type 0
Goes old step new = MakesNext old (λ call reply. Unit {0}) step new

-- so many steps with the answer More
abbrev pub Lead : ℕ → Standing → Told → Standing → Told → Type 0
Lead zero old before new after = (new ≡ old) × (after ≡ before)
Lead (suc n) old before new after = (mid : Standing) × (between : Told) × Lead n old before mid between × Calls mid between More new after

-- steps with the answer More, and then the last step
pub record CallsToEnd (old : Standing) (before : Told) (step : Step) (new : Standing) (after : Told) : Type 0 where
  pub number : ℕ
  pub there : Standing
  pub told : Told
  pub first : Lead number old before there told
  pub last : Calls there told step new after

-- the same whatever the shelf
abbrev pub Go : ℕ → Standing → Standing → Type 0
Go zero old new = new ≡ old
Go (suc n) old new = (mid : Standing) × Go n old mid × Goes mid More new

pub record HasGone (old : Standing) (step : Step) (new : Standing) : Type 0 where
  pub number : ℕ
  pub there : Standing
  pub first : Go number old there
  pub last : Goes there step new

-- A run is steps with the answer More, and then the last step. Over an honest shelf that tells what it holds, these are all that is
-- done to that.
pub record IsRun (old : Standing) (before : Shelving) (step : Step) (new : Standing) (after : Shelving) : Type 0 where
  pub goes : HasGone old step new
  pub calls : (s : Told) → before.honest → before.told ≡ Some s → (t : Told) × (after.told ≡ Some t) × CallsToEnd old s step new t

-- After a fault the session tells which temporary name the call named.
abbrev pub Blames : Step → Option ℕ → Type 0
Blames (SaysFault tmp) blamed = blamed ≡ tmp
Blames step blamed = Unit {0}

-- Each step that makes a call takes one from the steps that are left, or finds one temporary name more taken.
abbrev pub Spends : Session → Step → Session → Type 0
Spends old SaysMemory new = Unit {0}
Spends old Over new = Unit {0}
Spends old step new = (left new + old.number + 1 ≤ left old + new.number) × (old.number ≤ new.number)

-- how far a session comes by a step
pub record Advances (old : Session) (step : Step) (new : Session) : Type 0 where
  -- after More it hasn't ended
  pub more : step ≡ More → is_over new.phase ≡ false
  -- after Memory it is as before, and the step may be tried again
  pub memory : step ≡ SaysMemory → new ≡ old
  pub blames : Blames step (blamed new)
  pub spends : Spends old step new

-- the temporary entry of this number holds what so many of the calls make of an empty one, with the mark or without it
abbrev pub Holds : List Work → Shelved Dir → ℕ → ℕ → Bool → Type 0
Holds works s n k mark = (part : Dir) × (made trees works k trees.empty ≡ Some part) × (s.tops (tmp_name n) ≡ Some (record { tree = part; settled = mark }))

-- the temporary entry of a session with these calls, in this phase, is as the session left it
abbrev pub IsAsLeft : List Work → Phase → Shelved Dir → Type 0
IsAsLeft works (Filling n k) s = Holds works s n k false
IsAsLeft works (Settling n) s = Holds works s n (length works) false
IsAsLeft works (Renaming n) s = Holds works s n (length works) true
IsAsLeft works (Removing n) s = Holds works s n (length works) true
IsAsLeft works p s = Unit {0}
