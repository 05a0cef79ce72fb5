-- What a call of the program meets outside: each object as it is seen at one moment.
use Rattle.std.specs.Prelude.{◌≡◌, List}
use Rattle.zi_outside.specs.Views.{Feeding, Sinking}
use Rattle.zi_shelf.specs.Shelving.{Shelving}
use Rattle.zi_outcome.specs.declared.outcome.Outcome.{Outcome}
use Rattle.zi_world.specs.World.{World, NothingDone}

pub record Meets : Type 1 where
  pub feeds : Feeding
  -- the store that is written, and those that are read besides
  pub shelf : Shelving
  pub others : List Shelving
  -- a web is seen as feeds are
  pub web : Feeding
  pub out : Sinking

-- what most commands meet of it
abbrev pub world_of : Meets → World
world_of m = record { feeds = m.feeds; shelf = m.shelf; others = m.others; out = m.out }

-- the web was asked for nothing
abbrev pub WebUnasked : Meets → Meets → Type 0
WebUnasked before after = after.web ≡ before.web

-- nothing was done outside
pub record NothingMet (before after : Meets) : Type 0 where
  pub nothing : NothingDone (world_of before) (world_of after)
  pub web : WebUnasked before after

-- the work of a command that meets no web
pub record Within (Does : World → World → Outcome → Type 0) (before after : Meets) (outcome : Outcome) : Type 0 where
  pub does : Does (world_of before) (world_of after) outcome
  pub web : WebUnasked before after
