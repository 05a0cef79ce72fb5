-- The calls that fill, as a session keeps them, and those for what stands at a place of a tree.
use Rattle.std.specs.Prelude.{ℕ, Bool, true, false, List, [], ◌∷◌, ◌++◌, map}
use Rattle.zi_tree.specs.declared.tree.TreeNode.{TreeNode}
use Rattle.zi_tree.specs.declared.tree.TreeNode.TheVariants.{File, Link, Folder}
use Rattle.zi_tree.specs.Walk.{Spot}
use Rattle.zi_shelf.specs.Filling.{Work, MakeFolder, MakeLink}
use Rattle.zi_session.specs.Works.{work_of, file_works}
use Rattle.zi_session.specs.declared.work.Work.{Work as KeptWork}

-- the calls of the shelf
abbrev pub calls : List KeptWork → List Work
calls ws = map work_of ws

-- it is a file or a link
abbrev pub is_leaf : TreeNode → Bool
is_leaf (File bytes exec mtime) = true
is_leaf (Link target) = true
is_leaf (Folder inside) = false

-- the calls for a node at a path, for a folder without what is in it
abbrev pub node_calls : List (List ℕ) → TreeNode → List Work
node_calls path (File bytes exec mtime) = file_works path bytes exec mtime
node_calls path (Link target) = MakeLink path target ∷ []
node_calls path (Folder inside) = MakeFolder path ∷ []

-- those for what stands at a place
abbrev pub calls_at : Spot → List Work
calls_at s = node_calls (s.folder ++ s.name ∷ []) s.node
