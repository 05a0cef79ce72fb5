-- What the walk that writes a manifest adds, entry by entry.
use Rattle.std.specs.Prelude.{◌≡◌, ℕ, ◌≤◌, ◌<◌, ◌++◌, List, length, Option, Some, None, Result, Ok, Err}
use Rattle.std.specs.Option.{option_or}
use Rattle.zi_digest.specs.declared.Algorithm.{Algorithm}
use Rattle.zi_digest.specs.Name.{name_of}
use Rattle.zi_tree.specs.Dir.{Dir}
use Rattle.zi_manifest.specs.Sketch.{sketch, leaf_text, folder_text, folder_line, text_of}
use Rattle.zi_manifest.specs.Manifest.{leaf_bad, folder_bad, first_bad}
use Rattle.zi_store.specs.declared.pieces.Hashed.{Hashed}
use Rattle.zi_store.specs.declared.written.Written.{Written}
use Rattle.zi_tree.specs.declared.change.TreeLimit.TheVariants as limit
use Rattle.zi_store.specs.declared.stop.Stop.{Stop}
use Rattle.zi_store.specs.declared.stop.Stop.TheVariants as stop

-- the hash of a file's bytes and their number, where they are no more than the limit; else the limit on bytes
abbrev pub HashesBytes : Algorithm → List ℕ → ℕ → Result Hashed Stop → Type 0
HashesBytes a bytes most (Ok hashed) = (hashed.hash ≡ name_of a bytes) × (hashed.size ≡ length bytes) × (length bytes ≤ most)
HashesBytes a bytes most (Err stop.Missing) = ⊥
HashesBytes a bytes most (Err (stop.TooLarge what)) = (what ≡ limit.Size) × (most < length bytes)
HashesBytes a bytes most (Err (stop.Fault fault)) = Unit {0}

-- these lines stand behind what was written, and this is the first bad name where none was met before
pub record Adds (old new : Written) (lines : List ℕ) (bad : Option (List ℕ)) : Type 0 where
  pub text : new.text.items ≡ old.text.items ++ lines
  pub first : new.bad ≡ option_or old.bad bad

-- the hash of some bytes, and their number
pub record HashesSome (a : Algorithm) (hashed : Hashed) : Type 0 where
  pub bytes : List ℕ
  pub hash : hashed.hash ≡ name_of a bytes
  pub size : hashed.size ≡ length bytes

-- What stands behind what was written, whatever the shelf is, in the folder at this path: the lines of some files and links,
pub record AddsLeaves (a : Algorithm) (path : List ℕ) (old new : Written) : Type 0 where
  pub tree : Dir
  pub adds : Adds old new (leaf_text (sketch a tree)) (leaf_bad path tree)

-- those of some subfolders with all in them,
pub record AddsFolders (a : Algorithm) (path : List ℕ) (old new : Written) : Type 0 where
  pub tree : Dir
  pub adds : Adds old new (folder_text path (sketch a tree)) (folder_bad path tree)

-- those of all in some folder,
pub record AddsAll (a : Algorithm) (path : List ℕ) (old new : Written) : Type 0 where
  pub tree : Dir
  pub adds : Adds old new (leaf_text (sketch a tree) ++ folder_text path (sketch a tree)) (option_or (leaf_bad path tree) (folder_bad path tree))

-- or those with the folder's own line before them.
pub record AddsFolder (a : Algorithm) (path : List ℕ) (old new : Written) : Type 0 where
  pub tree : Dir
  pub adds : Adds old new (folder_line path ++ (leaf_text (sketch a tree) ++ folder_text path (sketch a tree))) (option_or (leaf_bad path tree) (folder_bad path tree))

-- the lines of some whole tree, and its first bad name
pub record IsOfTree (a : Algorithm) (written : Written) : Type 0 where
  pub tree : Dir
  pub text : written.text.items ≡ text_of (sketch a tree)
  pub bad : written.bad ≡ first_bad tree
