-- The folders of what is selected.
use Rattle.std.specs.Prelude.{◌≡◌, ◌⊎◌, ℕ, List, ◌∷◌, ◌++◌, map, find, filter_map, is_some, Option, Some, None, option_map, Result, Ok, Err, if◌then◌else◌, bytes_eq}
use Rattle.std.specs.Map.{lookup}
use Rattle.zi_digest.specs.declared.DigestName.{DigestName}
use Rattle.zi_digest.specs.Name.{spelling}
use Rattle.zi_shelf.specs.Shelving.{Shelving}
use Rattle.zi_reading.specs.Words.{first}
use Rattle.zi_sels.specs.declared.types.Selection.{Selection}
use Rattle.zi_outcome.specs.declared.outcome.Outcome.{Outcome}
use Rattle.zi_outcome.specs.declared.outcome.Outcome.TheVariants.{MissingTree, Memory}
use Rattle.zi_world.specs.Places.{place_by, root_at}
use Rattle.zi_fetching.specs.Known.{Names, is_known}

-- of these digests, which stand in the order of use, the first that is stored, where there is no path
abbrev pub stored_of : Names → List DigestName → Option (List ℕ) → Option DigestName
stored_of stored digests (Some path) = None
stored_of stored digests None = find (is_known stored) digests

-- the stored tree that stands for what is selected; what is local has none
abbrev pub tree_of : Names → Selection → Option DigestName
tree_of stored x = stored_of stored x.digests x.local

abbrev pub trees_of : Names → List Selection → List DigestName
trees_of stored items = filter_map (tree_of stored) items

-- the store's folder, `/` and the name
abbrev pub stored_folder : List ℕ → DigestName → List ℕ
stored_folder root name = root ++ 47 ∷ spelling name

-- the folder of a stored tree, in the store of its number
abbrev pub stored_at : List Shelving → (DigestName → ℕ) → DigestName → List ℕ
stored_at stores number name = stored_folder (root_at stores (number name)) name

-- The folder: the path of what is local, or that of its stored tree.
abbrev pub folder_by : (DigestName → List ℕ) → Option DigestName → Option (List ℕ) → Option (List ℕ)
folder_by path_of tree (Some path) = Some path
folder_by path_of tree None = option_map path_of tree

abbrev pub folder : (DigestName → List ℕ) → Names → Selection → Option (List ℕ)
folder path_of stored x = folder_by path_of (tree_of stored x) x.local

-- The digest of which no tree is stored: the first, where there is no path, and none of them is stored.
abbrev pub missing_by : Option DigestName → List DigestName → Option (List ℕ) → Option DigestName
missing_by tree digests (Some path) = None
missing_by tree digests None = if is_some tree then None else first digests

abbrev pub missing : Names → Selection → Option DigestName
missing stored x = missing_by (tree_of stored x) x.digests x.local

-- that of the first selection that has one
abbrev pub first_missing : Names → List Selection → Option DigestName
first_missing stored items = first (filter_map (missing stored) items)

-- no folder is found, since a tree is missing, whose name is told, or memory was refused
abbrev pub LacksFolder : Option DigestName → Outcome → Type 0
LacksFolder missed outcome =
    ((d : DigestName) × (missed ≡ Some d) × (outcome ≡ MissingTree (spelling d))) ⊎ (outcome ≡ Memory)

abbrev pub FindsFolder : (DigestName → List ℕ) → Names → Selection → Result (Option (List ℕ)) Outcome → Type 0
FindsFolder path_of stored x (Ok path) = (missing stored x ≡ None) × (path ≡ folder path_of stored x)
FindsFolder path_of stored x (Err outcome) = LacksFolder (missing stored x) outcome

abbrev pub FindsFolders : (DigestName → List ℕ) → Names → List Selection → Result (List (Option (List ℕ))) Outcome → Type 0
FindsFolders path_of stored items (Ok paths) = (first_missing stored items ≡ None) × (paths ≡ map (folder path_of stored) items)
FindsFolders path_of stored items (Err outcome) = LacksFolder (first_missing stored items) outcome

-- Where each digest stands, as it is looked up: of what isn't there the store that is written.
abbrev pub place_in : List (List ℕ × ℕ) → DigestName → ℕ
place_in entries d = place_by (lookup (bytes_eq (spelling d)) entries)
