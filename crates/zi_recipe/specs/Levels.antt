-- A tree level by level: the folders of one level, and what is left to be counted in them.
use Rattle.std.specs.Prelude.{◌≡◌, ℕ, suc, ◌+◌, ◌<◌, ◌≤◌, max, List, [], ◌∷◌, map, length}
use Rattle.std.specs.List.{flat_map, sum_by}
use Rattle.std.proofs.Common.{Bor}
use Rattle.zi_tree.specs.Dir.{Dir}
use Rattle.zi_tree.specs.Paths.{items}
use Rattle.zi_tree.specs.Views.{Item}
use Rattle.zi_tree.specs.declared.tree.TreeNode.{TreeNode}
use Rattle.zi_tree.specs.declared.tree.TreeNode.TheVariants.{File, Link, Folder}
use Rattle.zi_tree.specs.declared.change.TreeLimit.TheVariants.{Nodes}
use Rattle.zi_recipe.specs.declared.fault.RecipeFault.{RecipeFault}
use Rattle.zi_recipe.specs.declared.fault.RecipeFault.TheVariants as fault
use Rattle.zi_tree.specs.Limits.{nodes_limit}
use Rattle.zi_recipe.specs.Limits.{nodes_in, depth_of}

-- folders that are lent
abbrev pub trees : List (Bor Dir) → List Dir
trees ts = map (λ r. r.now) ts

-- what is in a node, where it is a folder
abbrev pub folder_of : TreeNode → List Dir
folder_of (File bytes exec mtime) = []
folder_of (Link target) = []
folder_of (Folder inside) = inside ∷ []

abbrev pub folders_among : List Item → List Dir
folders_among is = flat_map (λ i. folder_of i.1) is

-- the folders in a folder
abbrev pub folders_in : Dir → List Dir
folders_in d = folders_among (items d)

-- how many entries stand in folders themselves, and how many in them at every depth
abbrev pub entries_in : List Dir → ℕ
entries_in ds = sum_by (λ d. length (items d)) ds

abbrev pub all_nodes_in : List Dir → ℕ
all_nodes_in ds = sum_by nodes_in ds

-- how many levels of folders these begin
abbrev pub levels : List Dir → ℕ
levels [] = 0
levels (d ∷ ds) = max (suc (depth_of d)) (levels ds)

-- the entries of a level were counted to others, and these are the folders of the next
pub record CountsLevel (level : List Dir) (before : ℕ) (next : List Dir) (after : ℕ) : Type 0 where
  pub inner : next ≡ flat_map folders_in level
  pub nodes : after ≡ before + entries_in level
  pub few : after ≤ nodes_limit

-- they would be too many
abbrev pub StopsCounting : List Dir → ℕ → RecipeFault → Type 0
StopsCounting level before (fault.TooLarge what limit) = (what ≡ Nodes) × (limit ≡ nodes_limit) × (nodes_limit < before + entries_in level)
StopsCounting level before fault.Memory = Unit {0}
StopsCounting level before e = ⊥
