-- How much a tree may have, where trees are limited.
use Rattle.std.specs.Prelude.{ℕ}
use Rattle.zi_tree.specs.declared.change.TreeLimit.{TreeLimit}
use Rattle.zi_tree.specs.declared.change.TreeLimit.TheVariants as limit

-- folders one in another: the top folder has the depth 0
abbrev pub depth_limit : ℕ
depth_limit = 64

-- files, links and folders
abbrev pub nodes_limit : ℕ
nodes_limit = 100000

-- bytes of its files together: 256 MiB
abbrev pub size_limit : ℕ
size_limit = 268435456

abbrev pub limit_of : TreeLimit → ℕ
limit_of limit.Depth = depth_limit
limit_of limit.Nodes = nodes_limit
limit_of limit.Size = size_limit
