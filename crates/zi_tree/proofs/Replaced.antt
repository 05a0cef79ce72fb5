-- Entries whose nodes are replaced.
use Rattle.std.proofs.Common.{◌≡◌, ℕ, true, false, List, [], ◌∷◌, Some, None, refl, sym, ap, bytes_eq, if◌then◌else◌}
use Rattle.zi_tree.specs.Dir.{Dir, Nothing, AFile, ALink, AFolder}
use Rattle.zi_tree.specs.declared.tree.TreeNode.{TreeNode}
use Rattle.zi_tree.specs.Views.{Item, dir}
use Rattle.zi_tree.specs.Paths.{items, node_in, replaced, without}

-- the tree of a tree's entries is the tree
pub dir_items : (d : Dir) → dir (items d) ≡ d
dir_items Nothing = refl
dir_items (AFile n b e t rest) = ap (AFile n b e t) (dir_items rest)
dir_items (ALink n t rest) = ap (ALink n t) (dir_items rest)
dir_items (AFolder n inside rest) = ap (AFolder n inside) (dir_items rest)

-- two replacements under one name
pub replaced_twice : (n : List ℕ) (x y : TreeNode) (is : List Item) → replaced n y (replaced n x is) ≡ replaced n y is
replaced_twice n x y [] = refl
replaced_twice n x y (i ∷ is) =
    elim (bytes_eq i.0 n) as (λ t. bytes_eq i.0 n ≡ t → replaced n y (if t then (i.0, x) ∷ is else i ∷ replaced n x is) ≡ (if t then (i.0, y) ∷ is else i ∷ replaced n y is)) [
      | true ↦ λ e. rw e refl
      | false ↦ λ e. rw e (ap (λ (l : List Item). i ∷ l) (replaced_twice n x y is))
    ] refl

pub node_replaced : (n : List ℕ) (x y : TreeNode) (is : List Item) → node_in n is ≡ Some x → node_in n (replaced n y is) ≡ Some y
node_replaced n x y [] h = absurd (cc h)
node_replaced n x y (i ∷ is) h0 =
    elim (bytes_eq i.0 n) as (λ t. bytes_eq i.0 n ≡ t → (if t then Some i.1 else node_in n is) ≡ Some x → node_in n (if t then (i.0, y) ∷ is else i ∷ replaced n y is) ≡ Some y) [
      | true ↦ λ e h. rw e refl
      | false ↦ λ e h. rw e (node_replaced n x y is h)
    ] refl h0

-- the same node again
pub replaced_same : (n : List ℕ) (x : TreeNode) (is : List Item) → node_in n is ≡ Some x → replaced n x is ≡ is
replaced_same n x [] h = absurd (cc h)
replaced_same n x (i ∷ is) h0 =
    elim (bytes_eq i.0 n) as (λ t. (if t then Some i.1 else node_in n is) ≡ Some x → (if t then (i.0, x) ∷ is else i ∷ replaced n x is) ≡ i ∷ is) [
      | true ↦ λ h. (let e : i.1 ≡ x = cc h in ap (λ (z : TreeNode). (i.0, z) ∷ is) (sym e))
      | false ↦ λ h. ap (λ (l : List Item). i ∷ l) (replaced_same n x is h)
    ] h0

-- nothing under the name, nothing taken away
pub without_none : (n : List ℕ) (is : List Item) → node_in n is ≡ None → without n is ≡ is
without_none n [] h = refl
without_none n (i ∷ is) h0 =
    elim (bytes_eq i.0 n) as (λ t. (if t then Some i.1 else node_in n is) ≡ None → (if t then is else i ∷ without n is) ≡ i ∷ is) [
      | true ↦ λ h. absurd (cc h)
      | false ↦ λ h. ap (λ (l : List Item). i ∷ l) (without_none n is h)
    ] h0

-- nothing under the name, nothing replaced
pub replaced_none : (n : List ℕ) (x : TreeNode) (is : List Item) → node_in n is ≡ None → replaced n x is ≡ is
replaced_none n x [] h = refl
replaced_none n x (i ∷ is) h0 =
    elim (bytes_eq i.0 n) as (λ t. (if t then Some i.1 else node_in n is) ≡ None → (if t then (i.0, x) ∷ is else i ∷ replaced n x is) ≡ i ∷ is) [
      | true ↦ λ h. absurd (cc h)
      | false ↦ λ h. ap (λ (l : List Item). i ∷ l) (replaced_none n x is h)
    ] h0
