-- What is counted of a tree that is made, and which limit it passes.
use Rattle.std.specs.Prelude.{◌≡◌, ℕ, suc, ◌+◌, nat_lt, max, List, Option, Some, None, if◌then◌else◌}
use Rattle.std.specs.List.{sum_by}
use Rattle.zi_tree.specs.Dir.{Dir, Nothing, AFile, ALink, AFolder}
use Rattle.zi_tree.specs.Limits.{nodes_limit, depth_limit, limit_of}
use Rattle.zi_tree.specs.declared.change.TreeLimit.{TreeLimit}
use Rattle.zi_tree.specs.declared.change.TreeLimit.TheVariants.{Nodes, Depth}
use Rattle.zi_parts.specs.declared.types.Step.{Step}
use Rattle.zi_parts.specs.declared.types.Step.TheVariants.{File, Rename, Remove}
use Rattle.zi_recipe.specs.declared.fault.RecipeFault.{RecipeFault}
use Rattle.zi_recipe.specs.declared.fault.RecipeFault.TheVariants as fault

-- how many bytes a step says that it places
abbrev pub said_by : Step → ℕ
said_by (File href size dest exec) = size
said_by (Rename source dest) = 0
said_by (Remove path) = 0

abbrev pub said_size : List Step → ℕ
said_size steps = sum_by said_by steps

-- the files, links and folders in a tree, at every depth
abbrev pub nodes_in : Dir → ℕ
nodes_in Nothing = 0
nodes_in (AFile n b e m rest) = suc (nodes_in rest)
nodes_in (ALink n t rest) = suc (nodes_in rest)
nodes_in (AFolder n inside rest) = suc (nodes_in inside + nodes_in rest)

-- how deep its folders lie one in another: without any the depth is 0
abbrev pub depth_of : Dir → ℕ
depth_of Nothing = 0
depth_of (AFile n b e m rest) = depth_of rest
depth_of (ALink n t rest) = depth_of rest
depth_of (AFolder n inside rest) = max (suc (depth_of inside)) (depth_of rest)

-- The limit that a tree passes: that on its entries goes before that on its depth. A number equal to its limit doesn't pass it.
abbrev pub passed : Dir → Option TreeLimit
passed d =
    if nat_lt nodes_limit (nodes_in d) then Some Nodes
    else if nat_lt depth_limit (depth_of d) then Some Depth
    else None

-- a tree is refused for a limit that it passes
abbrev pub Passes : Dir → RecipeFault → Type 0
Passes d (fault.TooLarge what limit) = (passed d ≡ Some what) × (limit ≡ limit_of what)
Passes d fault.Memory = Unit {0}
Passes d e = ⊥
