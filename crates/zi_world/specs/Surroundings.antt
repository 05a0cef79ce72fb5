-- What a call of the program meets outside where it may start a program: all that `Meets` has, and a spawner.
use Rattle.std.specs.Prelude.{◌≡◌, List}
use Rattle.zi_outside.specs.Views.{Feeding, Sinking}
use Rattle.zi_outside.specs.Launched.{Spawning}
use Rattle.zi_shelf.specs.Shelving.{Shelving}
use Rattle.zi_outcome.specs.declared.outcome.Outcome.{Outcome}
use Rattle.zi_world.specs.Meets.{Meets, NothingMet}

pub record Surroundings : Type 1 where
  pub feeds : Feeding
  -- the store that is written, and those that are read besides
  pub shelf : Shelving
  pub others : List Shelving
  -- a web is seen as feeds are
  pub web : Feeding
  pub spawner : Spawning
  pub out : Sinking

-- what most commands meet of it
abbrev pub meets_of : Surroundings → Meets
meets_of s = record { feeds = s.feeds; shelf = s.shelf; others = s.others; web = s.web; out = s.out }

-- no program was tried to be started
abbrev pub NothingStarted : Surroundings → Surroundings → Type 0
NothingStarted before after = after.spawner ≡ before.spawner

-- nothing was done outside
pub record NothingDoneAround (before after : Surroundings) : Type 0 where
  pub nothing : NothingMet (meets_of before) (meets_of after)
  pub started : NothingStarted before after

-- the work of a command that meets no spawner
pub record Unstarted (Does : Meets → Meets → Outcome → Type 0) (before after : Surroundings) (outcome : Outcome) : Type 0 where
  pub does : Does (meets_of before) (meets_of after) outcome
  pub started : NothingStarted before after
