-- What each outcome says of the output, and of whose calls failed, whatever was asked for.
use Rattle.std.specs.Prelude.{◌≡◌, ℕ, List, ◌∷◌}
use Rattle.zi_text.specs.Count.{Rose}
use Rattle.zi_outside.specs.Views.{Sinking}
use Rattle.zi_outside.specs.Outside.{Writes, WritesFront}
use Rattle.zi_shelf.specs.Shelving.{Shelving}
use Rattle.zi_store.specs.Stores.{Each, IsCalm, SomeFails}
use Rattle.zi_outcome.specs.declared.outcome.Outcome.{Outcome}
use Rattle.zi_outcome.specs.declared.outcome.Outcome.TheVariants.{Done, FeedRead, NoSolution, FetchRead, DamagedTree, StoreFault, SpawnFault, SinkFault, Memory}
use Rattle.zi_outcome.specs.Writing.{StopsShort}
use Rattle.zi_world.specs.Surroundings.{Surroundings}

-- a text was written whole, and it may be empty
abbrev pub WritesText : Sinking → Sinking → Type 0
WritesText old new = (text : List ℕ) × Writes old text new

-- What was written: a text after three outcomes, a front of one where the output failed in it or memory was refused, and nothing after
-- all others.
abbrev pub Leaves : Outcome → Sinking → Sinking → Type 0
Leaves Done old new = WritesText old new
Leaves (NoSolution proof) old new = WritesText old new
Leaves (DamagedTree name found) old new = WritesText old new
Leaves SinkFault old new = (text : List ℕ) × WritesFront old text new
Leaves Memory old new = (text : List ℕ) × StopsShort old text new
Leaves other old new = new ≡ old

-- A count of faults rose after the outcome that blames its object, and stood still after all others.
abbrev pub RoseOnFeedRead : Outcome → ℕ → ℕ → Type 0
RoseOnFeedRead (FeedRead uri) old new = Rose old new
RoseOnFeedRead other old new = new ≡ old

abbrev pub RoseOnFetchRead : Outcome → ℕ → ℕ → Type 0
RoseOnFetchRead (FetchRead href) old new = Rose old new
RoseOnFetchRead other old new = new ≡ old

abbrev pub RoseOnSpawnFault : Outcome → ℕ → ℕ → Type 0
RoseOnSpawnFault SpawnFault old new = Rose old new
RoseOnSpawnFault other old new = new ≡ old

abbrev pub RoseOnSinkFault : Outcome → ℕ → ℕ → Type 0
RoseOnSinkFault SinkFault old new = Rose old new
RoseOnSinkFault other old new = new ≡ old

-- so it is of the stores: one of them failed, or none did
abbrev pub FailsOnStoreFault : Outcome → List Shelving → List Shelving → Type 0
FailsOnStoreFault (StoreFault name) before after = SomeFails before after
FailsOnStoreFault other before after = Each IsCalm before after

-- Whose calls failed: those of the object that the outcome blames, and no other's.
pub record Blames (outcome : Outcome) (before after : Surroundings) : Type 0 where
  pub feeds : RoseOnFeedRead outcome before.feeds.faults after.feeds.faults
  pub stores : FailsOnStoreFault outcome (before.shelf ∷ before.others) (after.shelf ∷ after.others)
  pub web : RoseOnFetchRead outcome before.web.faults after.web.faults
  pub spawner : RoseOnSpawnFault outcome before.spawner.faults after.spawner.faults
  pub out : RoseOnSinkFault outcome before.out.faults after.out.faults
