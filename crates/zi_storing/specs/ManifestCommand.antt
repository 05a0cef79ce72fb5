-- `manifest`: the manifest of a stored tree as it is read in the first store that has it, its digest's name and LF.
use Rattle.std.specs.Prelude.{◌≡◌, ℕ, ◌⊎◌, List, ◌++◌, Ok}
use Rattle.zi_digest.specs.Name.{name_of}
use Rattle.zi_digest.specs.declared.Algorithm.{Algorithm}
use Rattle.zi_shelf.specs.Names.{Name}
use Rattle.zi_shelf.specs.Shelving.{Shelving}
use Rattle.zi_store.specs.Keeping.{Keeps, is_reading}
use Rattle.zi_store.specs.Stores.{Each}
use Rattle.zi_store.specs.declared.manifests.ManifestRead.{ManifestRead}
use Rattle.zi_store.specs.declared.manifests.ManifestRead.TheVariants as read
use Rattle.zi_store.specs.ManifestAnswers.{ReadsManifest, IsOfSomeTree}
use Rattle.zi_outcome.specs.declared.outcome.Outcome.{Outcome}
use Rattle.zi_outcome.specs.declared.outcome.Outcome.TheVariants.{MissingTree, BadName, TreeTooLarge}
use Rattle.zi_world.specs.Shelves.{Held}
use Rattle.zi_outcome.specs.Writing.{Prints}
use Rattle.zi_world.specs.World.{World, all_stores, FeedsUnasked, StoresCalm, NothingWritten}
use Rattle.zi_world.specs.Places.{FirstOf}
use Rattle.zi_world.specs.StoreRead.{FailsAt}
use Rattle.zi_storing.specs.StoreList.{name_line}

-- a manifest with the line of its digest
abbrev pub digested : Algorithm → List ℕ → List ℕ
digested a text = text ++ name_line (name_of a text)

-- This is what the tree of this name reads as: a regular file `.manifest` in its top folder is left out. Whatever the shelf is, a
-- text is the manifest of some tree, and a bad name is the first one of some tree.
abbrev pub ReadsAs : Algorithm → Shelving → Name → ManifestRead → Type 0
ReadsAs a shelf top answer = Held shelf (λ s. ReadsManifest a top (Ok answer) s) × IsOfSomeTree a (Ok answer)

-- so it reads in the first store that has it; where none has it, it is missing in each
abbrev pub FirstReads : Algorithm → List Shelving → Name → ManifestRead → Type 0
FirstReads a stores top answer = FirstOf (λ k r. ReadsAs a k top r) read.Missing stores answer

-- there is none, or the first limit that it passes, or the first name in it that no manifest has; nothing is written
abbrev pub HasNoManifest : Algorithm → Name → World → World → Outcome → Type 0
HasNoManifest a top before after (MissingTree name) = (name ≡ top) × FirstReads a (all_stores before) top read.Missing × NothingWritten before after
HasNoManifest a top before after (TreeTooLarge what limit) = FirstReads a (all_stores before) top (read.TooLarge what limit) × NothingWritten before after
HasNoManifest a top before after (BadName path) = FirstReads a (all_stores before) top (read.BadName path) × NothingWritten before after
HasNoManifest a top before after other = ⊥

-- The stores are only read; where those answer that are asked there is no manifest, or it is printed with the line of its digest.
pub record Manifests (algorithm : Algorithm) (name : Name) (before after : World) (outcome : Outcome) : Type 0 where
  pub feeds : FeedsUnasked before after
  pub stores : Each (Keeps is_reading) (all_stores before) (all_stores after)
  pub answer : FailsAt name before after outcome
      ⊎ (StoresCalm before after
      × (HasNoManifest algorithm name before after outcome
      ⊎ ((text : List ℕ) × FirstReads algorithm (all_stores before) name (read.Read text) × Prints (digested algorithm text) before.out after.out outcome)))
