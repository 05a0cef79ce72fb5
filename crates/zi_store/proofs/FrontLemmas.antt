-- A tree's entries, split into those so far and the rest.
use Rattle.std.proofs.Common.{◌≡◌, ℕ, Bool, true, false, List, [], ◌∷◌, ◌++◌, Some, None, refl, sym, ap, subst, bytes_eq, if◌then◌else◌}
use Rattle.std.specs.Ordering.{is_lt, nat_cmp}
use Rattle.std.specs.Cmp.Lexicographic.{slice_cmp}
use Rattle.std.proofs.lemmas.Slice.Eq.{bytes_eq-Decides}
use Rattle.std.proofs.lemmas.Bool.{and_parts}
use Rattle.zi_tree.specs.Dir.{Dir, Nothing, AFile, ALink, AFolder}
use Rattle.zi_tree.specs.Order.{is_before, is_tree}
use Rattle.zi_tree.specs.Paths.{items, node_in, placed, replaced}
use Rattle.zi_tree.specs.declared.tree.TreeNode.{TreeNode}
use Rattle.zi_tree.specs.declared.tree.TreeNode.TheVariants.{File, Link, Folder}
use Rattle.zi_tree.specs.Views.{Item, dir, entry_of}
use Rattle.zi_tree.proofs.Order.{lt_apart, lt_less, parts, IsFirst}
use Rattle.zi_tree.proofs.Replaced.{dir_items}
use Rattle.zi_manifest.specs.Manifest.{own_name, as_read}
use Rattle.zi_manifest.specs.Walk.{shown}
use Rattle.zi_store.specs.Entries.{bare, emptied}
use Rattle.zi_manifest.proofs.Listed.{tree_read}
use Rattle.zi_text.proofs.ListLaws.{bytes_itself}

-- the name stands behind each of these
abbrev pub IsBehind : List ℕ → List Item → Type 0
IsBehind n [] = Unit {0}
IsBehind n (i ∷ is) = (is_lt (slice_cmp nat_cmp i.0 n) ≡ true) × IsBehind n is

pub free_behind : (n : List ℕ) (is : List Item) → IsBehind n is → node_in n is ≡ None
free_behind n [] h = refl
free_behind n (i ∷ is) h = rw (lt_apart i.0 n h.0) (free_behind n is h.1)

pub placed_behind : (n : List ℕ) (x : TreeNode) (is : List Item) → IsBehind n is → placed n x is ≡ is ++ (n, x) ∷ []
placed_behind n x [] h = refl
placed_behind n x (i ∷ is) h = rw (lt_less i.0 n h.0) (ap (λ (l : List Item). i ∷ l) (placed_behind n x is h.1))

pub node_there : (n : List ℕ) (x : TreeNode) (is rest : List Item) → IsBehind n is → node_in n (is ++ (n, x) ∷ rest) ≡ Some x
node_there n x [] rest h = rw (bytes_itself n) refl
node_there n x (i ∷ is) rest h = rw (lt_apart i.0 n h.0) (node_there n x is rest h.1)

pub replaced_there : (n : List ℕ) (x y : TreeNode) (is rest : List Item) → IsBehind n is → replaced n y (is ++ (n, x) ∷ rest) ≡ is ++ (n, y) ∷ rest
replaced_there n x y [] rest h = rw (bytes_itself n) refl
replaced_there n x y (i ∷ is) rest h = rw (lt_apart i.0 n h.0) (ap (λ (l : List Item). i ∷ l) (replaced_there n x y is rest h.1))

before_entry : (m n : List ℕ) (x : TreeNode) (rest : Dir) → is_before m (entry_of n x rest) ≡ true → (is_lt (slice_cmp nat_cmp m n) ≡ true) × (is_before m rest ≡ true)
before_entry m n (File b e t) rest h = and_parts (is_lt (slice_cmp nat_cmp m n)) (is_before m rest) h
before_entry m n (Link t) rest h = and_parts (is_lt (slice_cmp nat_cmp m n)) (is_before m rest) h
before_entry m n (Folder d) rest h = and_parts (is_lt (slice_cmp nat_cmp m n)) (is_before m rest) h

before_there : (m n : List ℕ) (x : TreeNode) (is rest : List Item) → is_before m (dir (is ++ (n, x) ∷ rest)) ≡ true → is_lt (slice_cmp nat_cmp m n) ≡ true
before_there m n x [] rest h = (before_entry m n x (dir rest) h).0
before_there m n x (i ∷ is) rest h = before_there m n x is rest (before_entry m i.0 i.1 (dir (is ++ (n, x) ∷ rest)) h).1

-- each name of a tree stands behind those in front of it
pub behind_front : (n : List ℕ) (x : TreeNode) (is rest : List Item) → is_tree (dir (is ++ (n, x) ∷ rest)) ≡ true → IsBehind n is
behind_front n x [] rest h = tt
behind_front n x (i ∷ is) rest h =
    let p = parts i.0 i.1 (dir (is ++ (n, x) ∷ rest)) h in
    (before_there i.0 n x is rest p.before, behind_front n x is rest p.rest_)

pub part_there : (n : List ℕ) (x : TreeNode) (is rest : List Item) → is_tree (dir (is ++ (n, x) ∷ rest)) ≡ true → IsFirst n x (dir rest)
part_there n x [] rest h = parts n x (dir rest) h
part_there n x (i ∷ is) rest h = part_there n x is rest (parts i.0 i.1 (dir (is ++ (n, x) ∷ rest)) h).rest_

-- the entries with their folders emptied
abbrev pub bared : List Item → List Item
bared [] = []
bared (i ∷ is) = (i.0, bare i.1) ∷ bared is

pub bared_append : (is js : List Item) → bared (is ++ js) ≡ bared is ++ bared js
bared_append [] js = refl
bared_append (i ∷ is) js = ap (λ (l : List Item). (i.0, bare i.1) ∷ l) (bared_append is js)

pub behind_bared : (n : List ℕ) (is : List Item) → IsBehind n is → IsBehind n (bared is)
behind_bared n [] h = tt
behind_bared n (i ∷ is) h = (h.0, behind_bared n is h.1)

pub emptied_bared : (d : Dir) → emptied d ≡ dir (bared (items d))
emptied_bared Nothing = refl
emptied_bared (AFile n b e t rest) = ap (AFile n b e t) (emptied_bared rest)
emptied_bared (ALink n t rest) = ap (ALink n t) (emptied_bared rest)
emptied_bared (AFolder n inside rest) = ap (AFolder n Nothing) (emptied_bared rest)

-- what is shown of a tree is a tree, and stands in it
before_node : (m n : List ℕ) (x : TreeNode) (is : List Item) → is_before m (dir is) ≡ true → node_in n is ≡ Some x → is_lt (slice_cmp nat_cmp m n) ≡ true
before_node m n x [] h e = absurd (cc e)
before_node m n x (i ∷ is) h e =
    let p = before_entry m i.0 i.1 (dir is) h in
    by_test p (bytes_eq i.0 n) refl e (before_node m n x is p.1)
  where
    by_test : (is_lt (slice_cmp nat_cmp m i.0) ≡ true) × (is_before m (dir is) ≡ true) → (b : Bool) → bytes_eq i.0 n ≡ b → (if b then Some i.1 else node_in n is) ≡ Some x → (node_in n is ≡ Some x → is_lt (slice_cmp nat_cmp m n) ≡ true) → is_lt (slice_cmp nat_cmp m n) ≡ true
    by_test p true f k rest = subst (λ z. is_lt (slice_cmp nat_cmp m z) ≡ true) ((bytes_eq-Decides i.0 n).0 f) p.0
    by_test p false f k rest = rest k

before_is : (m : List ℕ) (d : Dir) → is_before m d ≡ true → is_before m (dir (items d)) ≡ true
before_is m d h = subst (λ z. is_before m z ≡ true) (sym (dir_items d)) h

pub tree_shown : (top : Bool) (d : Dir) → is_tree d ≡ true → is_tree (shown top d) ≡ true
tree_shown true d h = tree_read d h
tree_shown false d h = h

-- one entry in front, where the rest is shown
node_first : (n m : List ℕ) (x y : TreeNode) (is js : List Item) → node_in n ((m, y) ∷ js) ≡ Some x → (node_in n js ≡ Some x → node_in n is ≡ Some x) → node_in n ((m, y) ∷ is) ≡ Some x
node_first n m x y is js e rest = by_test (bytes_eq m n) e
  where
    by_test : (b : Bool) → (if b then Some y else node_in n js) ≡ Some x → (if b then Some y else node_in n is) ≡ Some x
    by_test true k = k
    by_test false k = rest k

node_read : (n : List ℕ) (x : TreeNode) (d : Dir) → is_tree d ≡ true → node_in n (items (as_read d)) ≡ Some x → node_in n (items d) ≡ Some x
node_read n x Nothing h e = e
node_read n x (AFile m b k t rest) h e =
    let p = parts m (File b k t) rest h in
    by_own p.before (node_read n x rest p.rest_) (bytes_eq m own_name) e
  where
    by_own : is_before m rest ≡ true → (node_in n (items (as_read rest)) ≡ Some x → node_in n (items rest) ≡ Some x) → (o : Bool) → node_in n (items (if o then as_read rest else AFile m b k t (as_read rest))) ≡ Some x → node_in n ((m, File b k t) ∷ items rest) ≡ Some x
    by_own before ih true f =
        let there = ih f in
        rw (lt_apart m n (before_node m n x (items rest) (before_is m rest before) there)) there
    by_own before ih false f = node_first n m x (File b k t) (items rest) (items (as_read rest)) f ih
node_read n x (ALink m t rest) h e = node_first n m x (Link t) (items rest) (items (as_read rest)) e (node_read n x rest (parts m (Link t) rest h).rest_)
node_read n x (AFolder m inside rest) h e = node_first n m x (Folder inside) (items rest) (items (as_read rest)) e (node_read n x rest (parts m (Folder inside) rest h).rest_)

pub node_shown : (top : Bool) (n : List ℕ) (x : TreeNode) (d : Dir) → is_tree d ≡ true → node_in n (items (shown top d)) ≡ Some x → node_in n (items d) ≡ Some x
node_shown true n x d h e = node_read n x d h e
node_shown false n x d h e = e
