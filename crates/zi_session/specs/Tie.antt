-- A step of a session is the event step of an adder that it stands for.
use Rattle.std.specs.Prelude.{◌≡◌, ℕ, List, [], Some, map, slice_get, slice_set}
use Rattle.zi_tree.specs.Dir.{Dir}
use Rattle.zi_shelf.specs.Crash.{CrashLeaves}
use Rattle.zi_shelf.specs.Told.{Told}
use Rattle.zi_session.specs.Machine.{Adder, Steps, stopped}
use Rattle.zi_session.specs.Law.{IsLaw}
use Rattle.zi_session.specs.Invariant.{Inv, IsKept}
use Rattle.zi_session.specs.Standing.{Standing}
use Rattle.zi_session.specs.Stepping.{Calls}
use Rattle.zi_session.specs.StoreRules.{rules}
use Rattle.zi_session.specs.StoreWorks.{store_works}
use Rattle.zi_session.specs.declared.step.Step.{Step}

-- the session stands for the adder
pub record StandsFor (seen : Standing) (a : Adder Dir) : Type 0 where
  pub named : a.name ≡ seen.name
  pub makes : store_works a.name a.tree ≡ seen.works
  pub phase : a.phase ≡ seen.phase

-- a step of a session is the event step of each adder that it stands for
abbrev pub StepIsEvent : Type 0
StepIsEvent = (adders : List (Adder Dir)) (i : ℕ) (a : Adder Dir) (old new : Standing) (s t : Told) (step : Step)
    → StandsFor old a → slice_get adders i ≡ Some a → Calls old s step new t
    → Steps rules (record { shelf = s.shelf; adders = adders }) i (record { shelf = t.shelf; adders = slice_set adders i (record a { phase = new.phase }) })

-- a step keeps the invariant, for every list of adders in which the session stands for one
abbrev pub StepKeeps : Type 0
StepKeeps = (adders : List (Adder Dir)) (i : ℕ) (a : Adder Dir) (old new : Standing) (s t : Told) (step : Step)
    → StandsFor old a → slice_get adders i ≡ Some a → Calls old s step new t
    → Inv rules s.shelf adders → Inv rules t.shelf (slice_set adders i (record a { phase = new.phase }))

-- every event keeps the invariant
abbrev pub EventsKeep : Type 0
EventsKeep = IsKept rules

-- A crash of the shelf keeps the invariant: who had answered keeps the answer, and every other adder is stopped.
abbrev pub CrashKeeps : Type 0
CrashKeeps = (adders : List (Adder Dir)) (s t : Told) → CrashLeaves s.shelf t.shelf.tops → t.shelf.pending ≡ [] → Inv rules s.shelf adders → Inv rules t.shelf (map stopped adders)

-- the law of the store, over every list of events
abbrev pub StoreLaw : Type 0
StoreLaw = IsLaw rules
