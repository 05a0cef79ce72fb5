-- What stands at a place of a tree: its line, and whether its name is bad.
use Rattle.std.specs.Prelude.{ℕ, Bool, true, false, List, [], ◌∷◌, Option, None, length, if◌then◌else◌}
use Rattle.std.specs.Option.{option_or}
use Rattle.zi_digest.specs.declared.Algorithm.{Algorithm}
use Rattle.zi_tree.specs.declared.tree.TreeNode.{TreeNode}
use Rattle.zi_tree.specs.declared.tree.TreeNode.TheVariants.{File, Link, Folder}
use Rattle.zi_tree.specs.Walk.{Spot}
use Rattle.zi_manifest.specs.Sketch.{hash_of, file_line, link_line, folder_line, joined}
use Rattle.zi_manifest.specs.Walk.{is_own, bad_name}

-- the text of a path whose first parts have this text
abbrev pub joined_all : List ℕ → List (List ℕ) → List ℕ
joined_all text [] = text
joined_all text (n ∷ ns) = joined_all (joined text n) ns

-- the text of a path, its parts joined by `/`
abbrev pub path_text : List (List ℕ) → List ℕ
path_text p = joined_all [] p

-- the path of the top folder
abbrev pub is_top : List (List ℕ) → Bool
is_top [] = true
is_top (n ∷ ns) = false

-- the file `.manifest` in the top folder, which isn't shown
abbrev pub is_own_node : TreeNode → Spot → Bool
is_own_node (File b e t) s = is_own (is_top s.folder) s.name
is_own_node (Link t) s = false
is_own_node (Folder d) s = false

abbrev pub is_own_at : Spot → Bool
is_own_at s = is_own_node s.node s

-- the line of a file, a link or a folder
abbrev pub line_of : Algorithm → TreeNode → Spot → List ℕ
line_of a (File b e t) s = file_line (hash_of a b) e t (length b) s.name
line_of a (Link t) s = link_line (hash_of a t) (length t) s.name
line_of a (Folder d) s = folder_line (joined (path_text s.folder) s.name)

abbrev pub node_line : Algorithm → Spot → List ℕ
node_line a s = line_of a s.node s

-- the line in the manifest, and the path of a bad name
abbrev pub line_at : Algorithm → Spot → List ℕ
line_at a s = if is_own_at s then [] else node_line a s

abbrev pub bad_at : Spot → Option (List ℕ)
bad_at s = if is_own_at s then None else bad_name (path_text s.folder) s.name

-- the path of the first bad name among these
abbrev pub bad_among : List Spot → Option (List ℕ)
bad_among [] = None
bad_among (s ∷ ss) = option_or (bad_at s) (bad_among ss)
