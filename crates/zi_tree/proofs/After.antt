-- A folder, entry by entry.
use Rattle.std.proofs.Common.{◌≡◌, ◌≤◌, ℕ, zero, suc, ◌+◌, true, List, [], ◌∷◌, length, Some, sym, ◌∙◌, ap, drop, add-one}
use Rattle.std.proofs.lemmas.List.{drop_all}
use Rattle.std.proofs.lemmas.Option.{same_Some}
use Rattle.zi_tree.specs.Dir.{Dir, Nothing, AFile, ALink, AFolder}
use Rattle.zi_tree.specs.declared.tree.TreeNode.{TreeNode}
use Rattle.zi_tree.specs.declared.tree.TreeNode.TheVariants.{File, Link, Folder}
use Rattle.zi_tree.specs.Views.{Item, dir, entry_of}
use Rattle.zi_tree.specs.Paths.{items, name_in, node_of, after}
use Rattle.zi_tree.specs.Order.{is_tree, is_name}
use Rattle.zi_tree.proofs.Order.{parts}
use Rattle.zi_tree.proofs.Replaced.{dir_items}

-- the first entry of what is left
step : (is : List Item) (i : ℕ) (n : List ℕ) (x : TreeNode) → name_in is i ≡ Some n → node_of is i ≡ Some x → drop i is ≡ (n, x) ∷ drop (suc i) is
step [] i n x h k = absurd (cc h)
step ((m, y) ∷ is) zero n x h k = let e = same_Some m n h in let f = same_Some y x k in ap (λ (z : List ℕ). (z, y) ∷ is) e ∙ ap (λ (z : TreeNode). (n, z) ∷ is) f
step (j ∷ is) (suc i) n x h k = step is i n x h k

pub after_step : (d : Dir) (i : ℕ) (n : List ℕ) (x : TreeNode) → name_in (items d) i ≡ Some n → node_of (items d) i ≡ Some x → after i d ≡ entry_of n x (after (suc i) d)
after_step d i n x h k = ap dir (step (items d) i n x h k)

pub after_next : (d : Dir) (i : ℕ) (n : List ℕ) (x : TreeNode) → name_in (items d) i ≡ Some n → node_of (items d) i ≡ Some x → after i d ≡ entry_of n x (after (i + 1) d)
after_next d i n x h k = after_step d i n x h k ∙ ap (λ j. entry_of n x (after j d)) (sym (add-one i))

pub after_none : (d : Dir) → after 0 d ≡ d
after_none d = dir_items d

pub after_all : (d : Dir) (i : ℕ) → length (items d) ≤ i → after i d ≡ Nothing
after_all d i h = ap dir (drop_all i (items d) h)

-- the names of a tree are names
name_is : (m n : List ℕ) → is_name m ≡ true → Some m ≡ Some n → is_name n ≡ true
name_is m n h k = ap is_name (sym (same_Some m n k)) ∙ h

pub named_at : (d : Dir) (i : ℕ) (n : List ℕ) → is_tree d ≡ true → name_in (items d) i ≡ Some n → is_name n ≡ true
named_at Nothing i n h k = absurd (cc k)
named_at (AFile m b e t rest) zero n h k = name_is m n (parts m (File b e t) rest h).name k
named_at (AFile m b e t rest) (suc i) n h k = named_at rest i n (parts m (File b e t) rest h).rest_ k
named_at (ALink m t rest) zero n h k = name_is m n (parts m (Link t) rest h).name k
named_at (ALink m t rest) (suc i) n h k = named_at rest i n (parts m (Link t) rest h).rest_ k
named_at (AFolder m inside rest) zero n h k = name_is m n (parts m (Folder inside) rest h).name k
named_at (AFolder m inside rest) (suc i) n h k = named_at rest i n (parts m (Folder inside) rest h).rest_ k
