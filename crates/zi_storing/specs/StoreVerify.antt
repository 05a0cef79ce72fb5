-- `store verify`: whether a tree has its digest in the first store that has it, and what its own manifest says where it hasn't.
use Rattle.std.specs.Prelude.{◌≡◌, ℕ, ◌+◌, ◌≤◌, ◌⊎◌, List, [], ◌∷◌, ◌++◌, length, codes, Some, None, Ok}
use Rattle.std.specs.Fmt.{decimal}
use Rattle.zi_digest.specs.declared.Algorithm.{Algorithm}
use Rattle.zi_digest.specs.declared.DigestName.{DigestName}
use Rattle.zi_digest.specs.Name.{spelling, algorithm_of}
use Rattle.zi_manifest.specs.Manifest.{own_name, as_read, manifest, HasManifest}
use Rattle.zi_manifest.specs.Listing.{IsManifest}
use Rattle.zi_outside.specs.Views.{Sinking}
use Rattle.zi_tree.specs.Dir.{Dir}
use Rattle.zi_shelf.specs.Names.{Name}
use Rattle.zi_shelf.specs.Shelved.{Top, Shelved}
use Rattle.zi_shelf.specs.Shelving.{Shelving}
use Rattle.zi_store.specs.Keeping.{Keeps, is_reading}
use Rattle.zi_store.specs.Stores.{Each}
use Rattle.zi_store.specs.declared.verdicts.Verdict.TheVariants as verdict
use Rattle.zi_store.specs.Walking.{passed}
use Rattle.zi_store.specs.FileAnswers.{file_at}
use Rattle.zi_store.specs.Verdicts.{Verifies}
use Rattle.zi_store.specs.Lines.{DifferFirstIn}
use Rattle.zi_outcome.specs.declared.outcome.Outcome.{Outcome}
use Rattle.zi_outcome.specs.declared.outcome.Outcome.TheVariants.{MissingTree, DamagedTree, BadName, TreeTooLarge}
use Rattle.zi_storing.specs.declared.difference.Difference.{Difference}
use Rattle.zi_storing.specs.declared.difference.Difference.TheVariants.{NoManifest, Agrees, FirstIn}
use Rattle.zi_storing.specs.declared.checked.Checked.{Checked}
use Rattle.zi_storing.specs.declared.checked.Checked.TheVariants as checked
use Rattle.zi_world.specs.Shelves.{Held}
use Rattle.zi_outcome.specs.Writing.{Prints, PrintsThen}
use Rattle.zi_world.specs.World.{World, all_stores, FeedsUnasked, StoresCalm}
use Rattle.zi_world.specs.Places.{FirstOf}
use Rattle.zi_world.specs.StoreRead.{FailsAt}

-- 64 MiB
abbrev pub manifest_limit : ℕ
manifest_limit = 67108864

-- the bytes of the file `.manifest` in the top folder, which are no more than the limit, and are a manifest by this algorithm
pub record HasOwnManifest (a : Algorithm) (top : Name) (s : Shelved Dir) (bytes : List ℕ) : Type 0 where
  pub there : file_at top (own_name ∷ []) s ≡ Some bytes
  pub few : length bytes ≤ manifest_limit
  pub good : IsManifest a bytes

-- a tree that is within the limits and has a manifest
pub record HasDigest (top : Name) (s : Shelved Dir) : Type 0 where
  pub entry : Top Dir
  pub there : s.tops top ≡ Some entry
  pub few : passed (as_read entry.tree) ≡ None
  pub good : HasManifest entry.tree

-- the manifest of what is stored under the name
pub record HasComputed (a : Algorithm) (top : Name) (s : Shelved Dir) (text : List ℕ) : Type 0 where
  pub entry : Top Dir
  pub there : s.tops top ≡ Some entry
  pub is : text ≡ manifest a (as_read entry.tree)

-- how two texts differ: the first line, from 1, that isn't the same
abbrev pub Compares : List ℕ → List ℕ → Difference → Type 0
Compares own text NoManifest = ⊥
Compares own text Agrees = own ≡ text
Compares own text (FirstIn n) = (k : ℕ) × (n ≡ k + 1) × DifferFirstIn own text k

-- how the manifest that stands in the tree differs from the computed one, where one stands there
abbrev pub DiffersBy : Algorithm → Name → Difference → Shelved Dir → Type 0
DiffersBy a top NoManifest s = (own : List ℕ) → HasOwnManifest a top s own → ⊥
DiffersBy a top difference s = (own text : List ℕ) × HasOwnManifest a top s own × HasComputed a top s text × Compares own text difference

abbrev pub difference_text : Difference → List ℕ
difference_text NoManifest = codes "no manifest\n"
difference_text Agrees = codes "manifest agrees\n"
difference_text (FirstIn n) = codes "manifest line " ++ decimal n ++ codes "\n"

-- what is said of the tree under this name
abbrev pub ChecksAs : DigestName → Checked → Shelved Dir → Type 0
ChecksAs name checked.Sound s = Verifies name (Ok verdict.Sound) s
ChecksAs name (checked.Damaged found difference) s = Verifies name (Ok (verdict.Damaged found)) s × DiffersBy (algorithm_of name) (spelling name) difference s
ChecksAs name checked.Missing s = Verifies name (Ok verdict.Missing) s
ChecksAs name (checked.BadName path) s = Verifies name (Ok (verdict.BadName path)) s
ChecksAs name (checked.TooLarge what limit) s = Verifies name (Ok (verdict.TooLarge what limit)) s

-- what is told of that
abbrev pub TellsCheck : DigestName → Checked → Sinking → Sinking → Outcome → Type 0
TellsCheck name checked.Sound old new outcome = Prints (codes "sound\n") old new outcome
TellsCheck name (checked.Damaged found difference) old new outcome =
    PrintsThen (difference_text difference) (DamagedTree (spelling name) (spelling found)) old new outcome
TellsCheck name checked.Missing old new outcome = (outcome ≡ MissingTree (spelling name)) × (new ≡ old)
TellsCheck name (checked.BadName path) old new outcome = (outcome ≡ BadName path) × (new ≡ old)
TellsCheck name (checked.TooLarge what limit) old new outcome = (outcome ≡ TreeTooLarge what limit) × (new ≡ old)

-- so it is said of the tree in the first store that has one; where none has one, it is missing in each
abbrev pub FirstChecks : DigestName → List Shelving → Checked → Type 0
FirstChecks name stores c = FirstOf (λ k said. Held k (λ s. ChecksAs name said s)) checked.Missing stores c

-- The stores are only read; where those answer that are asked, the tree under the name is found sound or damaged, or has no digest, as what
-- the first store holds that has it, and that is told.
pub record VerifiesTree (name : DigestName) (before after : World) (outcome : Outcome) : Type 0 where
  pub feeds : FeedsUnasked before after
  pub stores : Each (Keeps is_reading) (all_stores before) (all_stores after)
  pub answer : FailsAt (spelling name) before after outcome
      ⊎ (StoresCalm before after × ((c : Checked) × FirstChecks name (all_stores before) c × TellsCheck name c before.out after.out outcome))
