-- What the objects hold when a call begins, as values.
use Rattle.std.specs.Prelude.{◌≡◌, ℕ, List, [], ◌∷◌, Some}
use Rattle.zi_text.specs.Count.{Rose}
use Rattle.zi_outside.specs.Views.{Holding, holding}
use Rattle.zi_shelf.specs.Shelving.{Shelving}
use Rattle.zi_shelf.specs.Told.{Told}
use Rattle.zi_store.specs.Stores.{Each}
use Rattle.zi_world.specs.Places.{AreTold}
use Rattle.zi_world.specs.Surroundings.{Surroundings}

-- the feeds, the stores, of which the first is the one that is written, with the paths of their folders, and the web
pub record Held : Type 0 where
  pub feeds : Holding
  pub stores : List Told
  pub roots : List (List ℕ)
  pub web : Holding

-- the paths of the stores' folders
abbrev pub HaveRoots : List Shelving → List (List ℕ) → Type 0
HaveRoots [] [] = Unit {0}
HaveRoots (k ∷ ks) (root ∷ roots) = (k.root ≡ root) × HaveRoots ks roots
HaveRoots stores roots = ⊥

-- the objects tell this; the stores are honest
pub record AreHeld (before : Surroundings) (held : Held) : Type 0 where
  pub feeds : holding before.feeds ≡ Some held.feeds
  pub stores : AreTold (before.shelf ∷ before.others) held.stores
  pub roots : HaveRoots (before.shelf ∷ before.others) held.roots
  pub web : holding before.web ≡ Some held.web

-- no call of a store failed
abbrev pub StandsStill : Shelving → Shelving → Type 0
StandsStill before after = ¬ Rose before.faults after.faults

-- no call of any object failed
pub record NoneFailed (before after : Surroundings) : Type 0 where
  pub feeds : ¬ Rose before.feeds.faults after.feeds.faults
  pub stores : Each StandsStill (before.shelf ∷ before.others) (after.shelf ∷ after.others)
  pub web : ¬ Rose before.web.faults after.web.faults
  pub spawner : ¬ Rose before.spawner.faults after.spawner.faults
  pub out : ¬ Rose before.out.faults after.out.faults
