-- What a call that fills a top entry makes of what stands at its path.
use Rattle.std.specs.Prelude.{ℕ, ℤ, Bool, true, false, List, ◌++◌, Option, Some, None}
use Rattle.zi_tree.specs.declared.tree.TreeNode.{TreeNode}
use Rattle.zi_tree.specs.declared.tree.TreeNode.TheVariants as node

-- a file stands there
abbrev pub is_file : Option TreeNode → Bool
is_file None = false
is_file (Some (node.File bytes exec mtime)) = true
is_file (Some (node.Link target)) = false
is_file (Some (node.Folder inside)) = false

-- a file with more bytes
abbrev pub grown_file : List ℕ → TreeNode → TreeNode
grown_file more (node.File bytes exec mtime) = node.File (bytes ++ more) exec mtime
grown_file more (node.Link target) = node.Link target
grown_file more (node.Folder inside) = node.Folder inside

-- a file with this executable bit and time
abbrev pub finished_file : Bool → ℤ → TreeNode → TreeNode
finished_file e t (node.File bytes exec mtime) = node.File bytes e t
finished_file e t (node.Link target) = node.Link target
finished_file e t (node.Folder inside) = node.Folder inside
