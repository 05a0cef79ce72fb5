-- What the program says of itself, and what it shows of a demonstration.
use Rattle.std.specs.Prelude.{ℕ, List}
use Rattle.zi_outcome.specs.declared.outcome.Outcome.{Outcome}
use Rattle.zi_store.specs.Stores.{Each}
use Rattle.zi_world.specs.Shelves.{Untouched}
use Rattle.zi_outcome.specs.Writing.{Prints}
use Rattle.zi_world.specs.World.{World, all_stores, FeedsUnasked}
use Rattle.zi_choosing.specs.Demo.{Demos}

-- a text is printed, and nothing else is done outside
pub record ShowsText (text : List ℕ) (before after : World) (outcome : Outcome) : Type 0 where
  pub feeds : FeedsUnasked before after
  pub stores : Each Untouched (all_stores before) (all_stores after)
  pub out : Prints text before.out after.out outcome

-- the lines of a demonstration are written, and nothing else is done outside: its feeds are its own
pub record ShowsDemo (n : ℕ) (before after : World) (outcome : Outcome) : Type 0 where
  pub feeds : FeedsUnasked before after
  pub stores : Each Untouched (all_stores before) (all_stores after)
  pub out : Demos n before.out after.out outcome
