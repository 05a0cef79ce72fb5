-- What is left of a tree while it is taken apart.
use Rattle.std.proofs.Common.{◌≡◌, ℕ, ◌+◌, ◌<◌, ◌≤◌, true, List, [], ◌∷◌, ◌++◌, Some, sym, ◌∙◌, ap, arith}
use Rattle.zi_tree.specs.Dir.{Dir, size_of}
use Rattle.zi_tree.specs.Order.{is_tree}
use Rattle.zi_tree.specs.declared.tree.Entry.{Entry}
use Rattle.zi_tree.specs.declared.tree.TreeNode.{TreeNode}
use Rattle.zi_tree.specs.declared.tree.TreeNode.TheVariants.{File, Link, Folder}
use Rattle.zi_tree.specs.Views.{dir_of, inside_of, node_is_tree}
use Rattle.zi_tree.proofs.Order.{tree_front, tree_last, tree_hung}
use Rattle.zi_tree.proofs.Sizes.{size_popped, size_folder, size_hung}

-- two lists of entries, trees both, with no more entries than this
abbrev pub AreLeft : List Entry → List Entry → ℕ → Type 0
AreLeft above here n = (is_tree (dir_of above) ≡ true) × (is_tree (dir_of here) ≡ true) × (size_of (dir_of above) + size_of (dir_of here) ≤ n)

pub folder_from : (x : TreeNode) (d : Dir) → Some d ≡ inside_of x → x ≡ Folder d
folder_from (File b e t) d h = absurd (cc h)
folder_from (Link t) d h = absurd (cc h)
folder_from (Folder i) d h = cc h

pub tree_popped : (here rest : List Entry) (e : Entry) → here ≡ rest ++ e ∷ [] → is_tree (dir_of here) ≡ true → is_tree (dir_of rest) ≡ true
tree_popped here rest e i t = tree_front rest (e ∷ []) (sym (ap (λ (l : List Entry). is_tree (dir_of l)) i) ∙ t)

pub tree_inside : (here rest inside : List Entry) (e : Entry) → here ≡ rest ++ e ∷ [] → is_tree (dir_of here) ≡ true → Some (dir_of inside) ≡ inside_of e.node → is_tree (dir_of inside) ≡ true
tree_inside here rest inside e i t f =
    sym (ap node_is_tree (folder_from e.node (dir_of inside) f)) ∙ tree_last rest e (sym (ap (λ (l : List Entry). is_tree (dir_of l)) i) ∙ t)

pub popped : (above here rest : List Entry) (e : Entry) (n : ℕ) → here ≡ rest ++ e ∷ [] → AreLeft above here n → AreLeft above rest n
popped above here rest e n i l =
    let s : size_of (dir_of rest) < size_of (dir_of here) = size_popped here rest e i in
    (l.0, tree_popped here rest e i l.1, omega arith)

pub entered : (above here rest inside hung : List Entry) (e : Entry) (n : ℕ) → here ≡ rest ++ e ∷ [] → Some (dir_of inside) ≡ inside_of e.node
    → hung ≡ rest ++ record { name = e.name; node = Folder (dir_of above) } ∷ [] → AreLeft above here n → AreLeft hung inside n
entered above here rest inside hung e n i f h l =
    let whole : is_tree (dir_of (rest ++ e ∷ [])) ≡ true = sym (ap (λ (l : List Entry). is_tree (dir_of l)) i) ∙ l.1 in
    let new : Entry = record { name = e.name; node = Folder (dir_of above) } in
    let a : size_of (dir_of here) ≡ size_of (dir_of rest) + (1 + size_of (dir_of inside)) = size_folder here rest e (dir_of inside) i (folder_from e.node (dir_of inside) f) in
    let b : size_of (dir_of hung) ≡ size_of (dir_of rest) + (1 + size_of (dir_of above)) = ap (λ (l : List Entry). size_of (dir_of l)) h ∙ size_hung rest e.name (dir_of above) in
    (ap (λ (l : List Entry). is_tree (dir_of l)) h ∙ tree_hung rest e (Folder (dir_of above)) whole l.0, tree_inside here rest inside e i l.1 f, omega arith)

pub inside_smaller : (here rest inside : List Entry) (e : Entry) → here ≡ rest ++ e ∷ [] → Some (dir_of inside) ≡ inside_of e.node → size_of (dir_of inside) < size_of (dir_of here)
inside_smaller here rest inside e i f =
    let a : size_of (dir_of here) ≡ size_of (dir_of rest) + (1 + size_of (dir_of inside)) = size_folder here rest e (dir_of inside) i (folder_from e.node (dir_of inside) f) in
    omega arith

-- what is left after an entry is taken and its folder entered is less
pub left_smaller : (here rest inside after : List Entry) (e : Entry) → here ≡ rest ++ e ∷ [] → Some (dir_of inside) ≡ inside_of e.node
    → size_of (dir_of after) ≤ size_of (dir_of inside) + size_of (dir_of rest) → size_of (dir_of after) < size_of (dir_of here)
left_smaller here rest inside after e i f le =
    let a : size_of (dir_of here) ≡ size_of (dir_of rest) + (1 + size_of (dir_of inside)) = size_folder here rest e (dir_of inside) i (folder_from e.node (dir_of inside) f) in
    omega arith
