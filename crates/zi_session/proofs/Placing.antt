-- The entries that the calls place are those of the tree.
use Rattle.std.proofs.Common.{◌≡◌, Bool, true, false, ◌&&◌, List, [], ◌∷◌, None, refl, ◌∙◌, ap, if◌then◌else◌}
use Rattle.std.specs.Ordering.{is_lt}
use Rattle.std.proofs.lemmas.Bool.{and_parts, and_from}
use Rattle.zi_tree.specs.Dir.{Dir, Nothing, AFile, ALink, AFolder}
use Rattle.zi_tree.specs.declared.tree.TreeNode.{TreeNode}
use Rattle.zi_tree.specs.declared.tree.TreeNode.TheVariants.{File, Link, Folder}
use Rattle.zi_tree.specs.Views.{Item}
use Rattle.zi_tree.specs.Paths.{items, node_in, placed}
use Rattle.zi_tree.specs.Order.{is_before, is_tree}
use Rattle.zi_tree.proofs.Order.{Name, cmp, lt_less, lt_apart, parts}
use Rattle.zi_session.proofs.Placed.{differ_flip, node_placed_other}

-- the files and links of a folder, placed one after another
abbrev pub leaves_on : Dir → List Item → List Item
leaves_on Nothing is = is
leaves_on (AFile n b e t rest) is = leaves_on rest (placed n (File b e t) is)
leaves_on (ALink n t rest) is = leaves_on rest (placed n (Link t) is)
leaves_on (AFolder n inside rest) is = leaves_on rest is

abbrev pub folders_on : Dir → List Item → List Item
folders_on Nothing is = is
folders_on (AFile n b e t rest) is = folders_on rest is
folders_on (ALink n t rest) is = folders_on rest is
folders_on (AFolder n inside rest) is = folders_on rest (placed n (Folder inside) is)

-- the name stands before each of these
abbrev pub before_all : Name → List Item → Bool
before_all n [] = true
before_all n (i ∷ is) = is_lt (cmp n i.0) && before_all n is

pub before_placed : (n m : Name) (x : TreeNode) (is : List Item) → is_lt (cmp n m) ≡ true → before_all n is ≡ true → before_all n (placed m x is) ≡ true
before_placed n m x [] h k = and_from (is_lt (cmp n m)) true h refl
before_placed n m x (i ∷ is) h k =
    elim (is_lt (cmp m i.0)) as (λ l. before_all n (if l then (m, x) ∷ i ∷ is else i ∷ placed m x is) ≡ true) [
      | true ↦ and_from (is_lt (cmp n m)) (before_all n (i ∷ is)) h k
      | false ↦ and_from (is_lt (cmp n i.0)) (before_all n (placed m x is)) (and_parts (is_lt (cmp n i.0)) (before_all n is) k).0 (before_placed n m x is h (and_parts (is_lt (cmp n i.0)) (before_all n is) k).1)
    ]

-- one that stands before all goes to the front
pub placed_front : (n : Name) (x : TreeNode) (is : List Item) → before_all n is ≡ true → placed n x is ≡ (n, x) ∷ is
placed_front n x [] h = refl
placed_front n x (i ∷ is) h = rw (and_parts (is_lt (cmp n i.0)) (before_all n is) h).0 refl

-- one that stands after the first goes behind it
placed_behind : (n : Name) (x : TreeNode) (i : Item) (is : List Item) → is_lt (cmp i.0 n) ≡ true → placed n x (i ∷ is) ≡ i ∷ placed n x is
placed_behind n x i is h = rw (lt_less i.0 n h) refl

before_leaves : (d : Dir) (n : Name) (is : List Item) → is_before n d ≡ true → before_all n is ≡ true → before_all n (leaves_on d is) ≡ true
before_leaves Nothing n is h k = k
before_leaves (AFile m b e t rest) n is h k =
    let p = and_parts (is_lt (cmp n m)) (is_before n rest) h in
    before_leaves rest n (placed m (File b e t) is) p.1 (before_placed n m (File b e t) is p.0 k)
before_leaves (ALink m t rest) n is h k =
    let p = and_parts (is_lt (cmp n m)) (is_before n rest) h in
    before_leaves rest n (placed m (Link t) is) p.1 (before_placed n m (Link t) is p.0 k)
before_leaves (AFolder m inside rest) n is h k = before_leaves rest n is (and_parts (is_lt (cmp n m)) (is_before n rest) h).1 k

-- the first entry stays in front of what is placed later
leaves_behind : (d : Dir) (i : Item) (is : List Item) → is_before i.0 d ≡ true → leaves_on d (i ∷ is) ≡ i ∷ leaves_on d is
leaves_behind Nothing i is h = refl
leaves_behind (AFile m b e t rest) i is h =
    let p = and_parts (is_lt (cmp i.0 m)) (is_before i.0 rest) h in
    ap (leaves_on rest) (placed_behind m (File b e t) i is p.0) ∙ leaves_behind rest i (placed m (File b e t) is) p.1
leaves_behind (ALink m t rest) i is h =
    let p = and_parts (is_lt (cmp i.0 m)) (is_before i.0 rest) h in
    ap (leaves_on rest) (placed_behind m (Link t) i is p.0) ∙ leaves_behind rest i (placed m (Link t) is) p.1
leaves_behind (AFolder m inside rest) i is h = leaves_behind rest i is (and_parts (is_lt (cmp i.0 m)) (is_before i.0 rest) h).1

folders_behind : (d : Dir) (i : Item) (is : List Item) → is_before i.0 d ≡ true → folders_on d (i ∷ is) ≡ i ∷ folders_on d is
folders_behind Nothing i is h = refl
folders_behind (AFile m b e t rest) i is h = folders_behind rest i is (and_parts (is_lt (cmp i.0 m)) (is_before i.0 rest) h).1
folders_behind (ALink m t rest) i is h = folders_behind rest i is (and_parts (is_lt (cmp i.0 m)) (is_before i.0 rest) h).1
folders_behind (AFolder m inside rest) i is h =
    let p = and_parts (is_lt (cmp i.0 m)) (is_before i.0 rest) h in
    ap (folders_on rest) (placed_behind m (Folder inside) i is p.0) ∙ folders_behind rest i (placed m (Folder inside) is) p.1

-- the leaves and then the folders of a tree in order are its entries
leaf_first : (rest : Dir) (i : Item) → is_before i.0 rest ≡ true → folders_on rest (leaves_on rest []) ≡ items rest → folders_on rest (leaves_on rest (i ∷ [])) ≡ i ∷ items rest
leaf_first rest i h ih = ap (folders_on rest) (leaves_behind rest i [] h) ∙ folders_behind rest i (leaves_on rest []) h ∙ ap (λ (l : List Item). i ∷ l) ih

pub all_placed : (d : Dir) → is_tree d ≡ true → folders_on d (leaves_on d []) ≡ items d
all_placed Nothing o = refl
all_placed (AFile n b e t rest) o =
    let p = parts n (File b e t) rest o in
    leaf_first rest (n, File b e t) p.before (all_placed rest p.rest_)
all_placed (ALink n t rest) o =
    let p = parts n (Link t) rest o in
    leaf_first rest (n, Link t) p.before (all_placed rest p.rest_)
all_placed (AFolder n inside rest) o =
    let p = parts n (Folder inside) rest o in
    let i : Item = (n, Folder inside) in
    ap (folders_on rest) (placed_front n (Folder inside) (leaves_on rest []) (before_leaves rest n [] p.before refl))
    ∙ folders_behind rest i (leaves_on rest []) p.before ∙ ap (λ (l : List Item). i ∷ l) (all_placed rest p.rest_)

-- no name of the folder is among the entries
abbrev pub AreFree : Dir → List Item → Type 0
AreFree Nothing is = Unit {0}
AreFree (AFile n b e t rest) is = (node_in n is ≡ None) × AreFree rest is
AreFree (ALink n t rest) is = (node_in n is ≡ None) × AreFree rest is
AreFree (AFolder n inside rest) is = (node_in n is ≡ None) × AreFree rest is

pub free_at_start : (d : Dir) → AreFree d []
free_at_start Nothing = tt
free_at_start (AFile n b e t rest) = (refl, free_at_start rest)
free_at_start (ALink n t rest) = (refl, free_at_start rest)
free_at_start (AFolder n inside rest) = (refl, free_at_start rest)

one_more : (n m : Name) (x : TreeNode) (is : List Item) → is_lt (cmp n m) ≡ true → node_in m is ≡ None → node_in m (placed n x is) ≡ None
one_more n m x is h free = node_placed_other m n x is (lt_apart n m h) ∙ free

pub free_after : (d : Dir) (n : Name) (x : TreeNode) (is : List Item) → is_before n d ≡ true → AreFree d is → AreFree d (placed n x is)
free_after Nothing n x is h f = tt
free_after (AFile m b e t rest) n x is h f =
    let p = and_parts (is_lt (cmp n m)) (is_before n rest) h in (one_more n m x is p.0 f.0, free_after rest n x is p.1 f.1)
free_after (ALink m t rest) n x is h f =
    let p = and_parts (is_lt (cmp n m)) (is_before n rest) h in (one_more n m x is p.0 f.0, free_after rest n x is p.1 f.1)
free_after (AFolder m inside rest) n x is h f =
    let p = and_parts (is_lt (cmp n m)) (is_before n rest) h in (one_more n m x is p.0 f.0, free_after rest n x is p.1 f.1)

-- only the names of the folders
abbrev pub FoldersFree : Dir → List Item → Type 0
FoldersFree Nothing is = Unit {0}
FoldersFree (AFile n b e t rest) is = FoldersFree rest is
FoldersFree (ALink n t rest) is = FoldersFree rest is
FoldersFree (AFolder n inside rest) is = (node_in n is ≡ None) × FoldersFree rest is

pub folders_free_after : (d : Dir) (n : Name) (x : TreeNode) (is : List Item) → is_before n d ≡ true → FoldersFree d is → FoldersFree d (placed n x is)
folders_free_after Nothing n x is h f = tt
folders_free_after (AFile m b e t rest) n x is h f = folders_free_after rest n x is (and_parts (is_lt (cmp n m)) (is_before n rest) h).1 f
folders_free_after (ALink m t rest) n x is h f = folders_free_after rest n x is (and_parts (is_lt (cmp n m)) (is_before n rest) h).1 f
folders_free_after (AFolder m inside rest) n x is h f =
    let p = and_parts (is_lt (cmp n m)) (is_before n rest) h in (one_more n m x is p.0 f.0, folders_free_after rest n x is p.1 f.1)

-- a name before those of the folder stays free while the leaves are placed
still_free : (d : Dir) (n : Name) (is : List Item) → is_before n d ≡ true → node_in n is ≡ None → node_in n (leaves_on d is) ≡ None
still_free Nothing n is h f = f
still_free (AFile m b e t rest) n is h f =
    let p = and_parts (is_lt (cmp n m)) (is_before n rest) h in
    still_free rest n (placed m (File b e t) is) p.1 (node_placed_other n m (File b e t) is (differ_flip n m (lt_apart n m p.0)) ∙ f)
still_free (ALink m t rest) n is h f =
    let p = and_parts (is_lt (cmp n m)) (is_before n rest) h in
    still_free rest n (placed m (Link t) is) p.1 (node_placed_other n m (Link t) is (differ_flip n m (lt_apart n m p.0)) ∙ f)
still_free (AFolder m inside rest) n is h f = still_free rest n is (and_parts (is_lt (cmp n m)) (is_before n rest) h).1 f

pub folders_free : (d : Dir) (is : List Item) → is_tree d ≡ true → AreFree d is → FoldersFree d (leaves_on d is)
folders_free Nothing is o f = tt
folders_free (AFile n b e t rest) is o f =
    let p = parts n (File b e t) rest o in
    folders_free rest (placed n (File b e t) is) p.rest_ (free_after rest n (File b e t) is p.before f.1)
folders_free (ALink n t rest) is o f =
    let p = parts n (Link t) rest o in
    folders_free rest (placed n (Link t) is) p.rest_ (free_after rest n (Link t) is p.before f.1)
folders_free (AFolder n inside rest) is o f =
    let p = parts n (Folder inside) rest o in
    (still_free rest n is p.before f.0, folders_free rest is p.rest_ f.1)
