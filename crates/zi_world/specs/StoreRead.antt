-- What the commands that read the stores have in common.
use Rattle.std.specs.Prelude.{◌≡◌, List}
use Rattle.zi_shelf.specs.Names.{Name}
use Rattle.zi_shelf.specs.Shelving.{Shelving}
use Rattle.zi_store.specs.Stores.{Each, IsCalm, SomeFails}
use Rattle.zi_outcome.specs.declared.outcome.Outcome.{Outcome}
use Rattle.zi_outcome.specs.declared.outcome.Outcome.TheVariants.{StoreFault, Memory}
use Rattle.zi_world.specs.World.{World, all_stores, NothingWritten}

-- A store failed at a call on this name, or memory was refused before.
abbrev pub StopsAt : Name → List Shelving → List Shelving → Outcome → Type 0
StopsAt top before after (StoreFault name) = (name ≡ top) × SomeFails before after
StopsAt top before after Memory = Each IsCalm before after
StopsAt top before after other = ⊥

-- the same, and nothing is written
abbrev pub FailsAt : Name → World → World → Outcome → Type 0
FailsAt top before after outcome = StopsAt top (all_stores before) (all_stores after) outcome × NothingWritten before after
