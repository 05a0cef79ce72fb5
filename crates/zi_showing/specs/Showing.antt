-- `show`: the selections of a document, as people read them.
use Rattle.std.specs.Prelude.{◌≡◌, ◌⊎◌, ℕ, List, [], Ok}
use Rattle.zi_digest.specs.declared.DigestName.{DigestName}
use Rattle.zi_store.specs.Keeping.{Keeps, is_names}
use Rattle.zi_store.specs.Stores.{Each, AreStored}
use Rattle.zi_sels.specs.declared.types.Selections.{Selections}
use Rattle.zi_opening.specs.Opening.{GetsNot, GetsSelections}
use Rattle.zi_outcome.specs.declared.outcome.Outcome.{Outcome}
use Rattle.zi_outcome.specs.Writing.{Prints}
use Rattle.zi_world.specs.Asking.{FeedsStay}
use Rattle.zi_world.specs.Shelves.{Untouched}
use Rattle.zi_world.specs.StoreRead.{FailsAt}
use Rattle.zi_world.specs.World.{World, all_stores, StoresCalm, NothingWritten}
use Rattle.zi_showing.specs.Tree.{Trees, AreTrees}
use Rattle.zi_showing.specs.Text.{stored_names, trees_text}

-- the text of a document where these digests are stored
pub record IsShown (sels : Selections) (digests : List DigestName) (text : List ℕ) : Type 0 where
  pub trees : Trees
  pub are : AreTrees sels trees
  pub is : text ≡ trees_text (stored_names digests) 0 trees

-- The file isn't got, or is no document of selections, and this is why. No call of a store was made.
pub record ReadsNone (file : List ℕ) (before after : World) (outcome : Outcome) : Type 0 where
  pub why : GetsNot file before.feeds outcome after.feeds
  pub stores : Each Untouched (all_stores before) (all_stores after)
  pub nothing : NothingWritten before after

-- the text of the document is printed, by the digests that are in any of the stores
pub record PrintsShown (sels : Selections) (before after : World) (outcome : Outcome) : Type 0 where
  pub calm : StoresCalm before after
  pub digests : List DigestName
  pub stored : AreStored (all_stores before) digests
  pub text : List ℕ
  pub shown : IsShown sels digests text
  pub printed : Prints text before.out after.out outcome

-- The document was read, and the stores are asked for their names: one of them fails, or memory is refused, and nothing is written; or the text
-- is printed.
pub record ShowsRead (file : List ℕ) (before after : World) (outcome : Outcome) : Type 0 where
  pub sels : Selections
  pub got : GetsSelections file before.feeds (Ok sels) after.feeds
  pub answer : FailsAt [] before after outcome ⊎ PrintsShown sels before after outcome

-- The file is read first, and no call of a store is made but for its names.
pub record ShowsSelections (file : List ℕ) (before after : World) (outcome : Outcome) : Type 0 where
  pub feeds : FeedsStay before.feeds after.feeds
  pub stores : Each (Keeps is_names) (all_stores before) (all_stores after)
  pub comes : ReadsNone file before after outcome ⊎ ShowsRead file before after outcome
