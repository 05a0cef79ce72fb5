-- The folders that are open.
use Rattle.std.specs.Prelude.{⊤, ◌≡◌, ◌⊎◌, ℕ, suc, ◌≤◌, Bool, true, false, List, [], ◌∷◌, ◌++◌, length, map, take, Option, Some, None, bytes_eq}
use Rattle.zi_shelf.specs.declared.shelf.Listed.{Listed}
use Rattle.zi_shelf.specs.declared.shelf.Listed.TheVariants.{Entries, Absent}
use Rattle.zi_folder.specs.declared.open_folders.OpenFile.{OpenFile}
use Rattle.zi_folder.specs.declared.open_folders.OpenFolders.{OpenFolders}

-- their names, each in the one before it, the top entry first
abbrev pub way : OpenFolders → List (List ℕ)
way held = map (λ folder. folder.name) held.folders.items

-- the way begins with this top entry
abbrev pub is_from : List ℕ → List (List ℕ) → Bool
is_from top [] = false
is_from top (name ∷ names) = bytes_eq name top

-- so many of the names are those of the parts, from the first on
pub record IsFront (count : ℕ) (names : List (List ℕ)) (parts : List (List ℕ)) : Type 0 where
  pub few : count ≤ length names
  pub fits : count ≤ length parts
  pub same : take count names ≡ take count parts

-- so many names of a way, its top entry among them, lead as these parts do from there
abbrev pub LeadsAs : ℕ → List (List ℕ) → List (List ℕ) → Type 0
LeadsAs count [] parts = count ≡ 0
LeadsAs count (top ∷ names) parts = (inner : ℕ) × (count ≡ suc inner) × IsFront inner names parts

-- the way and the file on it are as before, or no file is open
abbrev pub Enters : OpenFolders → OpenFolders → Type 0
Enters old new = ((way new ≡ way old) × (new.file ≡ old.file)) ⊎ (new.file ≡ None)

-- all is open as before
pub record Stays (old : OpenFolders) (new : OpenFolders) : Type 0 where
  pub way : way new ≡ way old
  pub file : new.file ≡ old.file
  pub path : new.path ≡ old.path
  pub numbered : new.numbered ≡ old.numbered

-- the file that is open has this name
abbrev pub is_file : List ℕ → Option OpenFile → Bool
is_file name None = false
is_file name (Some file) = bytes_eq file.name name

-- a file was read that is open at the end of this way
abbrev pub Reads : OpenFolders → List (List ℕ) → Type 0
Reads held wanted = (name : List ℕ) × (wanted ≡ way held ++ name ∷ []) × (is_file name held.file ≡ true)

-- entries were listed at the end of this way
abbrev pub Lists : Listed → List (List ℕ) → List (List ℕ) → Type 0
Lists (Entries entries) names wanted = names ≡ wanted
Lists Absent names wanted = ⊤
