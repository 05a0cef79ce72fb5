-- What a purger keeps of the shelf that it works on.
use Rattle.std.specs.Prelude.{◌≡◌, ◌≤◌, ◌+◌, ℕ, List, Some, IsSome}
use Rattle.zi_tree.specs.Dir.{Dir}
use Rattle.zi_text.specs.Count.{Rose}
use Rattle.zi_shelf.specs.Names.{Name}
use Rattle.zi_shelf.specs.Shelved.{Shelved}
use Rattle.zi_shelf.specs.Told.{Told}
use Rattle.zi_shelf.specs.Shelving.{Shelving, Stays}
use Rattle.zi_session.specs.Machine.{Adder}
use Rattle.zi_session.specs.Phases.{tmp_name}
use Rattle.zi_session.specs.StoreRules.{rules}
use Rattle.zi_purge.specs.Machine.{Purger, Phase, Moving, Sealing, Clearing}
use Rattle.zi_purge.specs.Invariant.{AreLeft, Inv}
use Rattle.zi_purge.specs.Alone.{IsAlone}
use Rattle.zi_purge.specs.Stepping.{Standing}
use Rattle.zi_purge.specs.Tie.{StandsFor, beside}
use Rattle.zi_purge.specs.declared.step.PurgeStep.{PurgeStep}
use Rattle.zi_purge.specs.declared.step.PurgeStep.TheVariants.{Fault}

-- The shelf is honest and tells what it holds, and that, these adders and this purger meet the invariant of the machine; so the store is sound.
pub record IsShared (seen : Shelving) (adders : List (Adder Dir)) (p : Purger) : Type 0 where
  pub honest : seen.honest
  pub now : Told
  pub tells : seen.told ≡ Some now
  pub invariant : Inv rules (beside now.shelf adders p)

-- Where it stands for the purger of those that share the shelf, they share it afterwards, with that purger in its new phase.
pub record KeepsInvariant (old : Standing) (before : Shelving) (new : Standing) (after : Shelving) : Type 0 where
  pub keeps : (adders : List (Adder Dir)) (p : Purger) → IsShared before adders p → StandsFor old p → IsShared after adders (record p { phase = new.phase })

-- Fault is answered only where the count of faults rose, and any other answer only where it stayed.
abbrev pub CountFits : PurgeStep → (before now : ℕ) → Type 0
CountFits (Fault tmp) before now = Rose before now
CountFits step before now = now ≡ before

-- Each name that is still to be renamed is there, and so is the temporary entry, from the rename to it to its removal.
abbrev pub IsAsLeft : List Name → Phase → Shelved Dir → Type 0
IsAsLeft names (Moving k n) s = AreLeft s names k
IsAsLeft names (Sealing k n) s = IsSome (s.tops (tmp_name n)) × AreLeft s names (k + 1)
IsAsLeft names (Clearing k n) s = IsSome (s.tops (tmp_name n)) × AreLeft s names (k + 1)
IsAsLeft names p s = Unit {0}

-- What a purger keeps of the shelf by a step, whatever it answers.
pub record KeepsShelf (old : Standing) (before : Shelving) (step : PurgeStep) (new : Standing) (after : Shelving) : Type 0 where
  -- a store that is sound stays so, and every name that lasts keeps its tree
  pub sound : KeepsInvariant old before new after
  pub cause : CountFits step before.faults after.faults
  pub later : before.faults ≤ after.faults
  -- over a sure shelf on which all is as the purger left it the count doesn't rise
  pub no_rise : (s : Told) → before.sure → before.told ≡ Some s → IsAsLeft old.names old.phase s.shelf → after.faults ≡ before.faults
  -- where it works alone it goes on so, and over a sure shelf the count doesn't rise
  pub alone : (start : Shelved Dir) → IsAlone start old before → IsAlone start new after
  pub no_fault : (start : Shelved Dir) → IsAlone start old before → before.sure → after.faults ≡ before.faults
  pub stays : Stays before after
