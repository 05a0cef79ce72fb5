-- Entries with one placed among them.
use Rattle.std.proofs.Common.{◌≡◌, true, false, List, [], ◌∷◌, Some, None, refl, sym, ap, bytes_eq, if◌then◌else◌}
use Rattle.std.specs.Ordering.{is_lt}
use Rattle.std.proofs.lemmas.Slice.Eq.{bytes_eq-Decides}
use Rattle.std.proofs.lemmas.Bool.{both_ways}
use Rattle.zi_tree.specs.declared.tree.TreeNode.{TreeNode}
use Rattle.zi_tree.specs.Views.{Item, dir, node_is_tree}
use Rattle.zi_tree.specs.Paths.{node_in, placed, replaced}
use Rattle.zi_tree.specs.Order.{is_name, is_before, is_tree}
use Rattle.zi_tree.proofs.Order.{Name, cmp, lt_flip, lt_trans, parts, whole, before_parts, before_whole}
use Rattle.zi_shelf.proofs.TopsLemmas.{test_refl}

pub differ_flip : (n m : Name) → bytes_eq n m ≡ false → bytes_eq m n ≡ false
differ_flip n m h =
    elim (bytes_eq m n) as (λ b. (b ≡ true → m ≡ n) → b ≡ false) [
      | true ↦ λ d. absurd (both_ways (bytes_eq n m) h ((bytes_eq-Decides n m).1 (sym (d refl))))
      | false ↦ λ d. refl
    ] (bytes_eq-Decides m n).0

-- what stands under a name that was free, once a node is placed there
pub node_placed : (n : Name) (x : TreeNode) (is : List Item) → node_in n is ≡ None → node_in n (placed n x is) ≡ Some x
node_placed n x [] h = rw (test_refl n) refl
node_placed n x (i ∷ is) h0 =
    elim (bytes_eq i.0 n) as (λ t. bytes_eq i.0 n ≡ t → (if t then Some i.1 else node_in n is) ≡ None → node_in n (placed n x (i ∷ is)) ≡ Some x) [
      | true ↦ λ e h. absurd (cc h)
      | false ↦ λ e h.
          elim (is_lt (cmp n i.0)) as (λ l. node_in n (if l then (n, x) ∷ i ∷ is else i ∷ placed n x is) ≡ Some x) [
            | true ↦ rw (test_refl n) refl
            | false ↦ rw e (node_placed n x is h)
          ]
    ] refl h0

-- and under another
pub node_placed_other : (m n : Name) (x : TreeNode) (is : List Item) → bytes_eq n m ≡ false → node_in m (placed n x is) ≡ node_in m is
node_placed_other m n x [] ne = rw ne refl
node_placed_other m n x (i ∷ is) ne =
    elim (is_lt (cmp n i.0)) as (λ l. node_in m (if l then (n, x) ∷ i ∷ is else i ∷ placed n x is) ≡ node_in m (i ∷ is)) [
      | true ↦ rw ne refl
      | false ↦ ap (λ o. if bytes_eq i.0 m then Some i.1 else o) (node_placed_other m n x is ne)
    ]

-- a node that is placed and then replaced
pub replaced_placed : (n : Name) (x y : TreeNode) (is : List Item) → node_in n is ≡ None → replaced n y (placed n x is) ≡ placed n y is
replaced_placed n x y [] h = rw (test_refl n) refl
replaced_placed n x y (i ∷ is) h0 =
    elim (bytes_eq i.0 n) as (λ t. bytes_eq i.0 n ≡ t → (if t then Some i.1 else node_in n is) ≡ None → replaced n y (placed n x (i ∷ is)) ≡ placed n y (i ∷ is)) [
      | true ↦ λ e h. absurd (cc h)
      | false ↦ λ e h.
          elim (is_lt (cmp n i.0)) as (λ l. replaced n y (if l then (n, x) ∷ i ∷ is else i ∷ placed n x is) ≡ (if l then (n, y) ∷ i ∷ is else i ∷ placed n y is)) [
            | true ↦ rw (test_refl n) refl
            | false ↦ rw e (ap (λ (l : List Item). i ∷ l) (replaced_placed n x y is h))
          ]
    ] refl h0

-- what is behind the first one is free too
pub free_behind : (n : Name) (i : Item) (is : List Item) → node_in n (i ∷ is) ≡ None → (bytes_eq i.0 n ≡ false) × (node_in n is ≡ None)
free_behind n i is h0 =
    elim (bytes_eq i.0 n) as (λ t. (if t then Some i.1 else node_in n is) ≡ None → (t ≡ false) × (node_in n is ≡ None)) [ true ↦ λ h. absurd (cc h) | false ↦ λ h. (refl, h) ] h0

before_more : (m n : Name) (x : TreeNode) (is : List Item) → is_lt (cmp m n) ≡ true → is_before m (dir is) ≡ true → is_before m (dir (placed n x is)) ≡ true
before_more m n x [] h k = before_whole m n x (dir []) h refl
before_more m n x (i ∷ is) h k =
    elim (is_lt (cmp n i.0)) as (λ l. is_before m (dir (if l then (n, x) ∷ i ∷ is else i ∷ placed n x is)) ≡ true) [
      | true ↦ before_whole m n x (dir (i ∷ is)) h k
      | false ↦ (let p = before_parts m i.0 i.1 (dir is) k in before_whole m i.0 i.1 (dir (placed n x is)) p.0 (before_more m n x is h p.1))
    ]

before_trans : (a b : Name) (is : List Item) → is_lt (cmp a b) ≡ true → is_before b (dir is) ≡ true → is_before a (dir is) ≡ true
before_trans a b [] h k = refl
before_trans a b (i ∷ is) h k =
    let p = before_parts b i.0 i.1 (dir is) k in
    before_whole a i.0 i.1 (dir is) (lt_trans a b i.0 h p.0) (before_trans a b is h p.1)

-- the first entry's name stands before the new one's, where that isn't placed in front of it
flip_of : (n q : Name) → bytes_eq q n ≡ false → is_lt (cmp n q) ≡ false → is_lt (cmp q n) ≡ true
flip_of n q ne h = lt_flip n q h (λ e. cc ((bytes_eq-Decides q n).1 (sym e), ne))

pub tree_placed : (n : Name) (x : TreeNode) (is : List Item) → node_in n is ≡ None → is_name n ≡ true → node_is_tree x ≡ true → is_tree (dir is) ≡ true → is_tree (dir (placed n x is)) ≡ true
tree_placed n x [] free name ok o = whole n x (dir []) (record { node = ok; name = name; before = refl; rest_ = refl })
tree_placed n x (i ∷ is) free name ok o =
    let p = parts i.0 i.1 (dir is) o in
    let g = free_behind n i is free in
    elim (is_lt (cmp n i.0)) as (λ l. is_lt (cmp n i.0) ≡ l → is_tree (dir (if l then (n, x) ∷ i ∷ is else i ∷ placed n x is)) ≡ true) [
      | true ↦ λ h. whole n x (dir (i ∷ is)) (record { node = ok; name = name; before = before_whole n i.0 i.1 (dir is) h (before_trans n i.0 is h p.before); rest_ = o })
      | false ↦ λ h. whole i.0 i.1 (dir (placed n x is)) (record { node = p.node; name = p.name; before = before_more i.0 n x is (flip_of n i.0 g.0 h) p.before; rest_ = tree_placed n x is g.1 name ok p.rest_ })
    ] refl
