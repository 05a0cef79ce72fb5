-- How many entries stand in a tree.
use Rattle.std.proofs.Common.{◌≡◌, ℕ, ◌+◌, ◌<◌, List, [], ◌∷◌, ◌++◌, refl, ◌∙◌, ap, arith}
use Rattle.zi_tree.specs.Dir.{Dir, size_of}
use Rattle.zi_tree.specs.declared.tree.Entry.{Entry}
use Rattle.zi_tree.specs.declared.tree.TreeNode.{TreeNode}
use Rattle.zi_tree.specs.declared.tree.TreeNode.TheVariants.{File, Link, Folder}
use Rattle.zi_tree.specs.Views.{entry_of, dir_of}

-- an entry, and what is in it
abbrev pub node_size : TreeNode → ℕ
node_size (File b e t) = 1
node_size (Link t) = 1
node_size (Folder d) = 1 + size_of d

size_entry : (n : List ℕ) (x : TreeNode) (rest : Dir) → size_of (entry_of n x rest) ≡ node_size x + size_of rest
size_entry n (File b e t) rest = refl
size_entry n (Link t) rest = refl
size_entry n (Folder d) rest = refl

node_some : (x : TreeNode) → 0 < node_size x
node_some (File b e t) = omega arith
node_some (Link t) = omega arith
node_some (Folder d) = omega arith

size_last : (es : List Entry) (e : Entry) → size_of (dir_of (es ++ e ∷ [])) ≡ size_of (dir_of es) + node_size e.node
size_last [] e = size_entry e.name e.node (dir_of []) ∙ omega arith
size_last (x ∷ es) e = omega (arith, size_entry x.name x.node (dir_of (es ++ e ∷ [])), size_entry x.name x.node (dir_of es), size_last es e)

-- the last entry away
pub size_popped : (all es : List Entry) (e : Entry) → all ≡ es ++ e ∷ [] → size_of (dir_of es) < size_of (dir_of all)
size_popped all es e h = omega (arith, ap (λ (l : List Entry). size_of (dir_of l)) h, size_last es e, node_some e.node)

-- and the folder in it
pub size_folder : (all es : List Entry) (e : Entry) (d : Dir) → all ≡ es ++ e ∷ [] → e.node ≡ Folder d → size_of (dir_of all) ≡ size_of (dir_of es) + (1 + size_of d)
size_folder all es e d h k = omega (arith, ap (λ (l : List Entry). size_of (dir_of l)) h, size_last es e, ap node_size k)

-- a folder hung at the last place
pub size_hung : (es : List Entry) (n : List ℕ) (d : Dir) → size_of (dir_of (es ++ record { name = n; node = Folder d } ∷ [])) ≡ size_of (dir_of es) + (1 + size_of d)
size_hung es n d = size_last es (record { name = n; node = Folder d })
