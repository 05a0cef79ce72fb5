-- The way down a tree and back: the folders above hang one in another, each in the place of the folder below it that was entered.
use Rattle.std.specs.Prelude.{◌≡◌, ℕ, ◌≤◌, Bool, true, false, List, [], ◌∷◌, Option, Some, None, option_map, take, drop, length, reverse}
use Rattle.zi_tree.specs.Dir.{Dir, Nothing}
use Rattle.zi_tree.specs.declared.tree.TreeNode.{TreeNode}
use Rattle.zi_tree.specs.declared.tree.TreeNode.TheVariants.{File, Link, Folder}
use Rattle.zi_tree.specs.Views.{dir, inside_of}
use Rattle.zi_tree.specs.Paths.{items, node_in, replaced, found, inserted, removed, changed}

abbrev inside_or_nothing : Option TreeNode → Dir
inside_or_nothing None = Nothing
inside_or_nothing (Some (File b e t)) = Nothing
inside_or_nothing (Some (Link t)) = Nothing
inside_or_nothing (Some (Folder inside)) = inside

-- the folder in the place of this name
abbrev pub folder_at : List ℕ → Dir → Dir
folder_at n d = inside_or_nothing (node_in n (items d))

-- the whole tree, of the folder here and those above; the names of the way come the last first
abbrev pub joined : List (List ℕ) → Dir → Dir → Dir
joined [] above here = here
joined (n ∷ ns) above here = joined ns (folder_at n above) (dir (replaced n (Folder here) (items above)))

-- a folder stands in the place of each name of the way
abbrev pub IsWay : List (List ℕ) → Dir → Type 0
IsWay [] above = Unit {0}
IsWay (n ∷ ns) above = (node_in n (items above) ≡ Some (Folder (folder_at n above))) × IsWay ns (folder_at n above)

-- the names of the way, the last first
abbrev pub way : List (List ℕ) → ℕ → List (List ℕ)
way path depth = reverse (take depth path)

-- The folder here lies at this depth of the path in the whole tree: what the path's rest says of it, the path says of the whole.
pub record Leads (path : List (List ℕ)) (whole : Dir) (depth : ℕ) (above here : Dir) : Type 0 where
  pub within : depth ≤ length path
  pub hung : IsWay (way path depth) above
  pub back : joined (way path depth) above here ≡ whole
  pub inserts : (x : TreeNode) → inserted path x whole ≡ option_map (joined (way path depth) above) (inserted (drop depth path) x here)
  pub finds : found path whole ≡ found (drop depth path) here
  pub removes : removed path whole ≡ joined (way path depth) above (removed (drop depth path) here)
  pub changes : (x : TreeNode) → changed path x whole ≡ joined (way path depth) above (changed (drop depth path) x here)

-- no folder of this name
abbrev pub HasNoFolder : List ℕ → Dir → Type 0
HasNoFolder n d = (inside : Dir) → node_in n (items d) ≡ Some (Folder inside) → ⊥

-- the next part of the rest is the last one, or leads to no folder
abbrev pub IsStopped : List (List ℕ) → Dir → Type 0
IsStopped [] d = Unit {0}
IsStopped (n ∷ []) d = Unit {0}
IsStopped (n ∷ m ∷ ms) d = HasNoFolder n d

-- a folder that is there, exchanged with another tree
abbrev pub Exchanges : List ℕ → Dir → Dir → Bool → Dir → Dir → Type 0
Exchanges n other d true d' other' = (node_in n (items d) ≡ Some (Folder other')) × (d' ≡ dir (replaced n (Folder other) (items d)))
Exchanges n other d false d' other' = (d' ≡ d) × (other' ≡ other) × HasNoFolder n d

-- a folder that is there is entered, and what was here hangs above
abbrev pub Enters : List ℕ → Dir → Dir → Bool → Dir → Dir → Type 0
Enters n above here true above' here' = (node_in n (items here) ≡ Some (Folder here')) × (above' ≡ dir (replaced n (Folder above) (items here)))
Enters n above here false above' here' = (above' ≡ above) × (here' ≡ here) × HasNoFolder n here

-- what is in a folder, exchanged with another tree
abbrev pub Swaps : TreeNode → Dir → Bool → TreeNode → Dir → Type 0
Swaps x d true y e = (x ≡ Folder e) × (y ≡ Folder d)
Swaps x d false y e = (y ≡ x) × (e ≡ d) × (inside_of x ≡ None)
