-- What stands in a tree, and at a path.
use Rattle.std.specs.Prelude.{ℕ, Bool, true, false, List, [], ◌∷◌, Option, None, Some, bytes_eq, if◌then◌else◌, is_none, option_map, slice_get, drop}
use Rattle.std.specs.Ordering.{is_lt, nat_cmp}
use Rattle.std.specs.Cmp.Lexicographic.{slice_cmp}
use Rattle.zi_tree.specs.Dir.{Dir, Nothing, AFile, ALink, AFolder}
use Rattle.zi_tree.specs.declared.tree.TreeNode.{TreeNode}
use Rattle.zi_tree.specs.declared.tree.TreeNode.TheVariants.{File, Link, Folder}
use Rattle.zi_tree.specs.Views.{Item, dir}

-- the entries of the top folder, in order
abbrev pub items : Dir → List Item
items Nothing = []
items (AFile n b e t rest) = (n, File b e t) ∷ items rest
items (ALink n t rest) = (n, Link t) ∷ items rest
items (AFolder n inside rest) = (n, Folder inside) ∷ items rest

-- the name and the node of an entry
abbrev pub name_in : List Item → ℕ → Option (List ℕ)
name_in is k = option_map (λ i. i.0) (slice_get is k)

abbrev pub node_of : List Item → ℕ → Option TreeNode
node_of is k = option_map (λ i. i.1) (slice_get is k)

-- the tree from the entry of that number on
abbrev pub after : ℕ → Dir → Dir
after i d = dir (drop i (items d))

-- what stands under a name
abbrev pub node_in : List ℕ → List Item → Option TreeNode
node_in n [] = None
node_in n (i ∷ is) = if bytes_eq i.0 n then Some i.1 else node_in n is

-- the entries with one more, in byte order
abbrev pub placed : List ℕ → TreeNode → List Item → List Item
placed n x [] = (n, x) ∷ []
placed n x (i ∷ is) = if is_lt (slice_cmp nat_cmp n i.0) then (n, x) ∷ i ∷ is else i ∷ placed n x is

-- the entries with another node under a name
abbrev pub replaced : List ℕ → TreeNode → List Item → List Item
replaced n x [] = []
replaced n x (i ∷ is) = if bytes_eq i.0 n then (i.0, x) ∷ is else i ∷ replaced n x is

-- the entries without those under a name
abbrev pub without : List ℕ → List Item → List Item
without n [] = []
without n (i ∷ is) = if bytes_eq i.0 n then is else i ∷ without n is

abbrev pub found_in : (Dir → Option TreeNode) → Option TreeNode → Option TreeNode
found_in f None = None
found_in f (Some (File b e t)) = None
found_in f (Some (Link t)) = None
found_in f (Some (Folder inside)) = f inside

-- no part follows
abbrev pub is_last : List (List ℕ) → Bool
is_last [] = true
is_last (n ∷ ns) = false

-- what stands at a path; nothing does at the empty one
abbrev pub found : List (List ℕ) → Dir → Option TreeNode
found [] d = None
found (n ∷ ns) d = if is_last ns then node_in n (items d) else found_in (λ inside. found ns inside) (node_in n (items d))

-- the tree with a changed or new folder under a name
abbrev pub below : List ℕ → Dir → Option TreeNode → (Dir → Option Dir) → Option Dir
below n d None f = option_map (λ inside. dir (placed n (Folder inside) (items d))) (f Nothing)
below n d (Some (File b e t)) f = None
below n d (Some (Link t)) f = None
below n d (Some (Folder inside)) f = option_map (λ new. dir (replaced n (Folder new) (items d))) (f inside)

abbrev pub placed_new : List ℕ → TreeNode → Dir → Option TreeNode → Option Dir
placed_new n x d None = Some (dir (placed n x (items d)))
placed_new n x d (Some y) = None

-- The tree with this at the path, in folders that are made where they are missing. None where something is there already, or where a part of the way is no folder.
abbrev pub inserted : List (List ℕ) → TreeNode → Dir → Option Dir
inserted [] x d = None
inserted (n ∷ ns) x d = if is_last ns then placed_new n x d (node_in n (items d)) else below n d (node_in n (items d)) (λ inside. inserted ns x inside)

-- the tree with a changed folder under a name; the same tree where no folder is there
abbrev pub changed_in : List ℕ → Dir → Option TreeNode → (Dir → Dir) → Dir
changed_in n d None f = d
changed_in n d (Some (File b e t)) f = d
changed_in n d (Some (Link t)) f = d
changed_in n d (Some (Folder inside)) f = dir (replaced n (Folder (f inside)) (items d))

-- the tree without what stands at the path; folders that this leaves empty stay
abbrev pub removed : List (List ℕ) → Dir → Dir
removed [] d = d
removed (n ∷ ns) d = if is_last ns then dir (without n (items d)) else changed_in n d (node_in n (items d)) (λ inside. removed ns inside)

-- the tree with this in the place of what stands at the path; the same tree where nothing stands there
abbrev pub changed : List (List ℕ) → TreeNode → Dir → Dir
changed [] x d = d
changed (n ∷ ns) x d = if is_last ns then dir (replaced n x (items d)) else changed_in n d (node_in n (items d)) (λ inside. changed ns x inside)

abbrev pub holder_in : (Dir → Option Dir) → Option TreeNode → Option Dir
holder_in f None = None
holder_in f (Some (File b e t)) = None
holder_in f (Some (Link t)) = None
holder_in f (Some (Folder inside)) = f inside

-- the folder that holds, or is to hold, what stands at the path; nothing holds the empty one
abbrev pub holder : List (List ℕ) → Dir → Option Dir
holder [] d = None
holder (n ∷ ns) d = if is_last ns then Some d else holder_in (λ inside. holder ns inside) (node_in n (items d))

-- the last name of a path
abbrev pub last_name : List (List ℕ) → List ℕ
last_name [] = []
last_name (n ∷ ns) = if is_last ns then n else last_name ns

abbrev pub is_free : List ℕ → Option Dir → Bool
is_free n None = false
is_free n (Some folder) = is_none (node_in n (items folder))

-- a new entry has room at the path: the folder that is to hold it is there, and the name in it is free
abbrev pub has_room : List (List ℕ) → Dir → Bool
has_room path d = is_free (last_name path) (holder path d)

-- a node at the end of new folders
abbrev pub nested : List (List ℕ) → TreeNode → TreeNode
nested [] x = x
nested (n ∷ ns) x = Folder (dir ((n, nested ns x) ∷ []))
