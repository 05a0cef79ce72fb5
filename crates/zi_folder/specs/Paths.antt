-- The paths of files and folders.
use Rattle.std.specs.Prelude.{ℕ, List, [], ◌∷◌, ◌++◌}

-- the path of a name in a folder
abbrev pub in_folder : List ℕ → List ℕ → List ℕ
in_folder folder name = folder ++ 47 ∷ name

-- the path to which these names lead from a folder, each in the one before it
abbrev pub path_on : List ℕ → List (List ℕ) → List ℕ
path_on path [] = path
path_on path (name ∷ names) = path_on (in_folder path name) names
