-- All nodes of a tree in the order of its manifest.
use Rattle.std.specs.Prelude.{ℕ, List, [], ◌∷◌, ◌++◌, map}
use Rattle.zi_tree.specs.Dir.{Dir, Nothing, AFile, ALink, AFolder}
use Rattle.zi_tree.specs.declared.tree.TreeNode.{TreeNode}
use Rattle.zi_tree.specs.declared.tree.TreeNode.TheVariants.{File, Link, Folder}
use Rattle.zi_tree.specs.declared.place.Place.{Place}

-- a node, its name, and the path of the folder that holds it
pub record Spot : Type 0 where
  pub folder : List (List ℕ)
  pub name : List ℕ
  pub node : TreeNode

abbrev pub spot : List (List ℕ) → List ℕ → TreeNode → Spot
spot p n x = record { folder = p; name = n; node = x }

-- the files and links of the folder at this path
abbrev pub leaf_places : List (List ℕ) → Dir → List Spot
leaf_places p Nothing = []
leaf_places p (AFile n b e t rest) = spot p n (File b e t) ∷ leaf_places p rest
leaf_places p (ALink n t rest) = spot p n (Link t) ∷ leaf_places p rest
leaf_places p (AFolder n inside rest) = leaf_places p rest

-- its subfolders, each followed by all in it
abbrev pub folder_places : List (List ℕ) → Dir → List Spot
folder_places p Nothing = []
folder_places p (AFile n b e t rest) = folder_places p rest
folder_places p (ALink n t rest) = folder_places p rest
folder_places p (AFolder n inside rest) =
    spot p n (Folder inside) ∷ (leaf_places (p ++ n ∷ []) inside ++ folder_places (p ++ n ∷ []) inside) ++ folder_places p rest

-- all nodes of a tree: first the files and links of the top folder, then each subfolder followed by all in it
abbrev pub places : Dir → List Spot
places d = leaf_places [] d ++ folder_places [] d

-- what places say
abbrev pub spot_of : Place → Spot
spot_of p = spot p.folder p.name.now p.node.now

abbrev pub spots : List Place → List Spot
spots ps = map spot_of ps
