-- What a tree's fields stand for.
use Rattle.std.specs.Prelude.{ℕ, Bool, true, List, [], ◌∷◌, Option, Some, None}
use Rattle.zi_tree.specs.Dir.{Dir, Nothing, AFile, ALink, AFolder}
use Rattle.zi_tree.specs.Order.{is_tree}
use Rattle.zi_tree.specs.declared.tree.Entry.{Entry}
use Rattle.zi_tree.specs.declared.tree.TreeNode.{TreeNode}
use Rattle.zi_tree.specs.declared.tree.TreeNode.TheVariants.{File, Link, Folder}

-- a name with what stands under it
abbrev pub Item : Type 0
Item = List ℕ × TreeNode

-- an entry in front of others
abbrev pub entry_of : List ℕ → TreeNode → Dir → Dir
entry_of name (File bytes exec mtime) rest = AFile name bytes exec mtime rest
entry_of name (Link target) rest = ALink name target rest
entry_of name (Folder inside) rest = AFolder name inside rest

-- the tree of these entries
abbrev pub dir : List Item → Dir
dir [] = Nothing
dir (i ∷ is) = entry_of i.0 i.1 (dir is)

-- the entries of the fields
abbrev pub items_of : List Entry → List Item
items_of [] = []
items_of (e ∷ es) = (e.name, e.node) ∷ items_of es

abbrev pub dir_of : List Entry → Dir
dir_of es = dir (items_of es)

-- a folder in it is a tree
abbrev pub node_is_tree : TreeNode → Bool
node_is_tree (File bytes exec mtime) = true
node_is_tree (Link target) = true
node_is_tree (Folder inside) = is_tree inside

-- what is in a folder
abbrev pub inside_of : TreeNode → Option Dir
inside_of (File bytes exec mtime) = None
inside_of (Link target) = None
inside_of (Folder inside) = Some inside
