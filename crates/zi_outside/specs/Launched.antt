-- What a call that starts a program does, over what is seen of a spawner before and after.
use Rattle.std.specs.Prelude.{◌≡◌, ℕ, Bool, true, false, List, [], ◌∷◌, ◌++◌, Option, Result, Ok, Err}
use Rattle.std.specs.Option.{option_map}
use Rattle.zi_text.specs.Count.{Rose}
use Rattle.zi_outside.specs.Plan.{FailsNext, one_more}
use Rattle.zi_outside.specs.declared.launch.Launch.{Launch}
use Rattle.zi_outside.specs.declared.spawner.SpawnFault.{SpawnFault}
use Rattle.zi_outside.specs.declared.spawner.SpawnFault.TheVariants as spawn

-- a launch, and the status that it was answered
pub record Ran : Type 0 where
  pub launch : Launch
  pub status : ℕ

-- What is seen of a spawner: the launches so far, the oldest first, and the number of its calls, where it tells them (a call
-- that lacks memory isn't counted); how often a call has failed; and the numbers of the calls that are to fail, counted from 1.
pub record Spawning : Type 0 where
  pub ran : Option (List Ran)
  pub calls : Option ℕ
  pub faults : ℕ
  pub plan : List ℕ

-- a program ran to this status
pub record Runs (old : Spawning) (launch : Launch) (status : ℕ) (new : Spawning) : Type 0 where
  pub ran : new.ran ≡ option_map (λ rs. rs ++ record { launch = launch; status = status } ∷ []) old.ran
  pub faults : new.faults ≡ old.faults
  pub plan : new.plan ≡ old.plan

-- the call failed, and nothing was launched
pub record FailsToRun (old new : Spawning) : Type 0 where
  pub ran : new.ran ≡ old.ran
  pub failed : Rose old.faults new.faults
  pub plan : new.plan ≡ old.plan

-- a call more was made, and whether it failed was planned
pub record CountsCall (old : Spawning) (failed : Bool) (new : Spawning) : Type 0 where
  pub calls : new.calls ≡ option_map one_more old.calls
  pub planned : FailsNext old.plan (option_map one_more old.calls) failed

-- A launch: a program ran to its status, or the count rose, as it was planned. Without memory all is as before.
abbrev pub Launches : Spawning → Launch → Result ℕ SpawnFault → Spawning → Type 0
Launches old launch (Ok status) new = Runs old launch status new × CountsCall old false new
Launches old launch (Err spawn.Failed) new = FailsToRun old new × CountsCall old true new
Launches old launch (Err spawn.Memory) new = new ≡ old
