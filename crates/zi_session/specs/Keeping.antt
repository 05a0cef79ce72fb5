-- What a session keeps of the shelf that it works on.
use Rattle.std.specs.Prelude.{◌≡◌, ◌≤◌, ℕ, List, Some, slice_get, slice_set}
use Rattle.zi_tree.specs.Dir.{Dir}
use Rattle.zi_text.specs.Count.{Rose}
use Rattle.zi_shelf.specs.Told.{Told}
use Rattle.zi_shelf.specs.Shelving.{Shelving, Stays}
use Rattle.zi_session.specs.Machine.{Adder}
use Rattle.zi_session.specs.Invariant.{Inv}
use Rattle.zi_session.specs.Standing.{Standing}
use Rattle.zi_session.specs.Stepping.{IsAsLeft}
use Rattle.zi_session.specs.StoreRules.{rules}
use Rattle.zi_session.specs.Tie.{StandsFor}
use Rattle.zi_session.specs.declared.step.Step.{Step}
use Rattle.zi_session.specs.declared.step.Step.TheVariants.{Fault}

-- The shelf is honest and tells what it holds, and that and these adders meet the invariant of the machine; so the store is sound.
pub record IsShared (seen : Shelving) (adders : List (Adder Dir)) : Type 0 where
  pub honest : seen.honest
  pub now : Told
  pub tells : seen.told ≡ Some now
  pub invariant : Inv rules now.shelf adders

-- Where the session stands for adder i of those that share the shelf, they share it afterwards, with adder i in the session's new phase.
pub record KeepsInvariant (old : Standing) (before : Shelving) (new : Standing) (after : Shelving) : Type 0 where
  pub keeps : (adders : List (Adder Dir)) (i : ℕ) (a : Adder Dir) → IsShared before adders → slice_get adders i ≡ Some a → StandsFor old a
      → IsShared after (slice_set adders i (record a { phase = new.phase }))

-- Fault is answered only where the count of faults rose, and any other answer only where it stayed.
abbrev pub CountFits : Step → (before now : ℕ) → Type 0
CountFits (Fault tmp) before now = Rose before now
CountFits step before now = now ≡ before

-- What a session keeps of the shelf, by a step or by a run, whatever it answers.
pub record KeepsShelf (old : Standing) (before : Shelving) (step : Step) (new : Standing) (after : Shelving) : Type 0 where
  -- a store that is sound stays so
  pub sound : KeepsInvariant old before new after
  pub cause : CountFits step before.faults after.faults
  pub later : before.faults ≤ after.faults
  -- over a sure shelf on which the temporary entry is as the session left it the count doesn't rise
  pub no_rise : (s : Told) → before.sure → before.told ≡ Some s → IsAsLeft old.works old.phase s.shelf → after.faults ≡ before.faults
  pub stays : Stays before after
