-- What a command meets of a shelf.
use Rattle.std.specs.Prelude.{◌≡◌, ◌≤◌, Some, IsSome}
use Rattle.zi_tree.specs.Dir.{Dir}
use Rattle.zi_shelf.specs.Shelved.{Shelved}
use Rattle.zi_shelf.specs.Shelving.{Shelving, Stays}
use Rattle.zi_shelf.specs.Told.{Told}

-- this holds of what the shelf holds, where it is honest and tells it
abbrev pub Held : Shelving → (Shelved Dir → Type 0) → Type 0
Held shelf P = (s : Told) → shelf.honest → shelf.told ≡ Some s → P s.shelf

-- this holds of what an honest shelf holds at the end that told what it held before
abbrev pub HeldThen : Shelving → Shelving → (Shelved Dir → Type 0) → Type 0
HeldThen before after P = (s : Told) → before.honest → before.told ≡ Some s → (t : Told) × (after.told ≡ Some t) × P t.shelf

-- It can be used on: an honest one that told what it held tells it, its count didn't fall, and what no call changes stayed.
pub record Lasts (before after : Shelving) : Type 0 where
  pub tells : (s : Told) → before.honest → before.told ≡ Some s → IsSome after.told
  pub later : before.faults ≤ after.faults
  pub stays : Stays before after

-- no call of it was made
pub record Untouched (before after : Shelving) : Type 0 where
  pub told : after.told ≡ before.told
  pub faults : after.faults ≡ before.faults
  pub stays : Stays before after
