-- Each folder in a tree is smaller than the tree.
use Rattle.std.specs.Prelude.{ℕ, ◌≤◌, max, List, [], ◌∷◌}
use Rattle.std.proofs.Common.{arith}
use denote.Param.Weighed.{most}
use Rattle.zi_tree.specs.Dir.{Dir, size_of}
use Rattle.zi_tree.specs.declared.tree.Entry.{Entry}
use Rattle.zi_tree.specs.declared.tree.TreeNode.{TreeNode}
use Rattle.zi_tree.specs.declared.tree.TreeNode.TheVariants.{File, Link, Folder}
use Rattle.zi_tree.specs.declared.tree.Tree.TheDeep.{deep-TreeNode, deep-Entry}
use Rattle.zi_tree.specs.Views.{entry_of, dir_of}

node_le : (name : List ℕ) (node : TreeNode) (rest : Dir) → max (deep-TreeNode node) (size_of rest) ≤ size_of (entry_of name node rest)
node_le name (File bytes exec mtime) rest = omega arith
node_le name (Link target) rest = omega arith
node_le name (Folder inside) rest = omega arith

-- no folder in it is as large as the tree
pub most_le-size_of : (es : List Entry) → most deep-Entry es ≤ size_of (dir_of es)
most_le-size_of [] = omega arith
most_le-size_of (e ∷ es) = omega (arith, most_le-size_of es, node_le e.name e.node (dir_of es))
