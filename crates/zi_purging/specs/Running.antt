-- A purger that is stepped until it answers something else than More, while nobody else changes the shelf.
use Rattle.std.specs.Prelude.{◌≡◌, ◌≤◌, ℕ, zero, suc, false, Some}
use Rattle.zi_shelf.specs.Shelved.{Shelved}
use Rattle.zi_shelf.specs.Shelving.{Shelving, Stays}
use Rattle.zi_shelf.specs.Told.{Told}
use Rattle.zi_tree.specs.Dir.{Dir}
use Rattle.zi_purge.specs.Alone.{IsAlone}
use Rattle.zi_purge.specs.Keeping.{CountFits}
use Rattle.zi_purge.specs.Machine.{Ended, Done, Crowded, Fault}
use Rattle.zi_purge.specs.Progress.{has_ended}
use Rattle.zi_purge.specs.Stepping.{Standing, Calls}
use Rattle.zi_purge.specs.declared.step.PurgeStep.{PurgeStep}
use Rattle.zi_purge.specs.declared.step.PurgeStep.TheVariants as step

-- so many steps with the answer More
abbrev pub Lead : ℕ → Standing → Told → Standing → Told → Type 0
Lead zero old before new after = (new ≡ old) × (after ≡ before)
Lead (suc n) old before new after = (mid : Standing) × (between : Told) × Lead n old before mid between × Calls mid between step.More new after

-- steps with the answer More, and then the last step
pub record CallsToEnd (old : Standing) (before : Told) (answer : PurgeStep) (new : Standing) (after : Told) : Type 0 where
  pub number : ℕ
  pub there : Standing
  pub told : Told
  pub first : Lead number old before there told
  pub last : Calls there told answer new after

-- what the last step may answer, and where the purger is then in its list of calls
abbrev pub IsEnd : PurgeStep → Standing → Type 0
IsEnd step.More x = ⊥
IsEnd step.Done x = x.phase ≡ Ended Done
IsEnd (step.Crowded tried) x = (tried ≡ 10000) × (x.phase ≡ Ended Crowded)
IsEnd (step.Fault tmp) x = x.phase ≡ Ended Fault
-- the step may be tried again
IsEnd step.Memory x = has_ended x.phase ≡ false
IsEnd step.Over x = ⊥

-- The steps of a purger from one standing to another, the last with this answer. Over an honest shelf that tells what it holds they
-- are all that is done to it. The count of its faults rose exactly where the answer is a fault, and over a sure shelf not at all.
pub record IsRun (old : Standing) (before : Shelving) (answer : PurgeStep) (new : Standing) (after : Shelving) : Type 0 where
  pub names : new.names ≡ old.names
  pub ends : IsEnd answer new
  pub calls : (s : Told) → before.honest → before.told ≡ Some s → (t : Told) × (after.told ≡ Some t) × CallsToEnd old s answer new t
  pub cause : CountFits answer before.faults after.faults
  pub later : before.faults ≤ after.faults
  pub alone : (start : Shelved Dir) → IsAlone start old before → IsAlone start new after
  pub no_fault : (start : Shelved Dir) → IsAlone start old before → before.sure → after.faults ≡ before.faults
  pub stays : Stays before after
