-- The laws at the rules of the store.
use Rattle.std.specs.Prelude.{List}
use Rattle.zi_tree.specs.Dir.{Dir}
use Rattle.zi_shelf.specs.Told.{Told}
use Rattle.zi_session.specs.Machine.{Adder}
use Rattle.zi_session.specs.StoreRules.{rules}
use Rattle.zi_purge.specs.Machine.{Purger}
use Rattle.zi_purge.specs.Law.{IsLaw, IsDoneLaw}
use Rattle.zi_purge.specs.Invariant.{Inv, IsKept}
use Rattle.zi_purge.specs.Stepping.{Standing, Calls}
use Rattle.zi_purge.specs.Tie.{StandsFor, beside, PurgeIsEvent}
use Rattle.zi_purge.specs.declared.step.PurgeStep.{PurgeStep}

abbrev pub StepIsEvent : Type 0
StepIsEvent = PurgeIsEvent rules

-- a step keeps the invariant, for every list of adders and every purger that it stands for
abbrev pub StepKeeps : Type 0
StepKeeps = (adders : List (Adder Dir)) (p : Purger) (old new : Standing) (s t : Told) (step : PurgeStep)
    → StandsFor old p → Calls old s step new t
    → Inv rules (beside s.shelf adders p) → Inv rules (beside t.shelf adders (record p { phase = new.phase }))

abbrev pub EventsKeep : Type 0
EventsKeep = IsKept rules

abbrev pub PurgeLaw : Type 0
PurgeLaw = IsLaw rules

abbrev pub DoneLaw : Type 0
DoneLaw = IsDoneLaw rules
