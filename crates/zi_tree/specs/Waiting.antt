-- What is left of a walk through a tree: the folders that are to be entered.
use Rattle.std.specs.Prelude.{ℕ, List, [], ◌∷◌, ◌++◌}
use Rattle.zi_tree.specs.Dir.{Dir}
use Rattle.zi_tree.specs.declared.tree.TreeNode.{TreeNode}
use Rattle.zi_tree.specs.declared.tree.TreeNode.TheVariants.{File, Link, Folder}
use Rattle.zi_tree.specs.declared.walk.Waiting.{Waiting}
use Rattle.zi_tree.specs.Walk.{Spot, spot_of, leaf_places, folder_places}

-- all in the folder at this path
abbrev pub all_in : List (List ℕ) → Dir → List Spot
all_in p d = leaf_places p d ++ folder_places p d

-- a file or link alone; none for a folder
abbrev pub leaf_of : TreeNode → Spot → List Spot
leaf_of (File bytes exec mtime) s = s ∷ []
leaf_of (Link target) s = s ∷ []
leaf_of (Folder inside) s = []

abbrev pub leaf_at : Spot → List Spot
leaf_at s = leaf_of s.node s

-- a folder followed by all in it; none for a file or link
abbrev pub folder_of : TreeNode → Spot → List Spot
folder_of (File bytes exec mtime) s = []
folder_of (Link target) s = []
folder_of (Folder inside) s = s ∷ all_in (s.folder ++ s.name ∷ []) inside

abbrev pub folder_at : Spot → List Spot
folder_at s = folder_of s.node s

-- what the folders that wait still give, of which the last one goes first
abbrev pub waiting_places : List Waiting → List Spot
waiting_places [] = []
waiting_places (w ∷ ws) = waiting_places ws ++ spot_of w.place ∷ all_in w.path w.inside.now
