-- A step of a purger is the event of the machine.
use Rattle.std.specs.Prelude.{◌≡◌, List, Some}
use Rattle.zi_tree.specs.Dir.{Dir}
use Rattle.zi_shelf.specs.Shelved.{Shelved}
use Rattle.zi_shelf.specs.Filling.{Work, trees}
use Rattle.zi_shelf.specs.Told.{Told}
use Rattle.zi_session.specs.Machine.{Rules, Adder}
use Rattle.zi_session.specs.Phases.{tmp_name}
use Rattle.zi_purge.specs.Machine.{Purger, Shared, Purges, names}
use Rattle.zi_purge.specs.Stepping.{Standing, Calls}
use Rattle.zi_purge.specs.declared.step.PurgeStep.{PurgeStep}

-- what stands for the purger of the machine
pub record StandsFor (seen : Standing) (p : Purger) : Type 0 where
  pub names : names p ≡ seen.names
  pub phase : p.phase ≡ seen.phase

-- the rules of the store's temporary names and trees
pub record IsOfStore (r : Rules Dir Work) : Type 0 where
  pub trees : r.trees ≡ trees
  pub tmp : r.tmp ≡ tmp_name
  pub tries : r.tries ≡ 10000

-- this shelf with these adders and this purger
abbrev pub beside : Shelved Dir → List (Adder Dir) → Purger → Shared Dir
beside s adders p = record { world = record { shelf = s; adders = adders }; purger = Some p }

-- a step of a purger is the event of each purger that it stands for, whoever adds beside it
abbrev pub PurgeIsEvent : Rules Dir Work → Type 0
PurgeIsEvent r = (adders : List (Adder Dir)) (p : Purger) (old new : Standing) (s t : Told) (step : PurgeStep)
    → StandsFor old p → Calls old s step new t
    → Purges r (beside s.shelf adders p) (beside t.shelf adders (record p { phase = new.phase }))
