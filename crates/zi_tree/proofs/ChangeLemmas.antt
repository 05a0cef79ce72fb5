-- What stands at a path, changed more than once, and what has room.
use Rattle.std.proofs.Common.{◌≡◌, ℕ, true, List, [], ◌∷◌, Option, Some, None, is_none, refl, sym, ◌∙◌, ap}
use Rattle.zi_tree.specs.Dir.{Dir}
use Rattle.zi_tree.specs.declared.tree.TreeNode.{TreeNode}
use Rattle.zi_tree.specs.declared.tree.TreeNode.TheVariants.{File, Link, Folder}
use Rattle.zi_tree.specs.Views.{Item, dir}
use Rattle.zi_tree.specs.Paths.{items, node_in, replaced, found, changed, holder, last_name, is_free, has_room}
use Rattle.zi_tree.proofs.Items.{items_of_dir}
use Rattle.zi_tree.proofs.Replaced.{dir_items, replaced_twice, replaced_same, node_replaced}
use Rattle.zi_tree.proofs.Holders.{found_held, node_held}

pub changed_deeper : (x : TreeNode) (n m : List ℕ) (ms : List (List ℕ)) (d inside : Dir) → node_in n (items d) ≡ Some (Folder inside)
    → changed (n ∷ m ∷ ms) x d ≡ dir (replaced n (Folder (changed (m ∷ ms) x inside)) (items d))
changed_deeper x n m ms d inside e = rw e refl

-- the later change alone counts
pub changed_twice : (path : List (List ℕ)) (x y : TreeNode) (d : Dir) → changed path y (changed path x d) ≡ changed path y d
changed_twice [] x y d = refl
changed_twice (n ∷ []) x y d = ap (λ (l : List Item). dir (replaced n y l)) (items_of_dir (replaced n x (items d))) ∙ ap dir (replaced_twice n x y (items d))
changed_twice (n ∷ m ∷ ms) x y d = by_node (node_in n (items d)) refl (λ inside. changed_twice (m ∷ ms) x y inside)
  where
    by_node : (o : Option TreeNode) → node_in n (items d) ≡ o → ((inside : Dir) → changed (m ∷ ms) y (changed (m ∷ ms) x inside) ≡ changed (m ∷ ms) y inside)
        → changed (n ∷ m ∷ ms) y (changed (n ∷ m ∷ ms) x d) ≡ changed (n ∷ m ∷ ms) y d
    by_node None e ih = ap (changed (n ∷ m ∷ ms) y) (let same : changed (n ∷ m ∷ ms) x d ≡ d = rw e refl in same)
    by_node (Some (File b t k)) e ih = ap (changed (n ∷ m ∷ ms) y) (let same : changed (n ∷ m ∷ ms) x d ≡ d = rw e refl in same)
    by_node (Some (Link t)) e ih = ap (changed (n ∷ m ∷ ms) y) (let same : changed (n ∷ m ∷ ms) x d ≡ d = rw e refl in same)
    by_node (Some (Folder i)) e ih =
        let first = replaced n (Folder (changed (m ∷ ms) x i)) (items d) in
        let there : node_in n (items (dir first)) ≡ Some (Folder (changed (m ∷ ms) x i)) = ap (node_in n) (items_of_dir first) ∙ node_replaced n (Folder i) (Folder (changed (m ∷ ms) x i)) (items d) e in
        ap (changed (n ∷ m ∷ ms) y) (changed_deeper x n m ms d i e) ∙ changed_deeper y n m ms (dir first) (changed (m ∷ ms) x i) there
        ∙ ap (λ (l : List Item). dir (replaced n (Folder (changed (m ∷ ms) y (changed (m ∷ ms) x i))) l)) (items_of_dir first)
        ∙ ap dir (replaced_twice n (Folder (changed (m ∷ ms) x i)) (Folder (changed (m ∷ ms) y (changed (m ∷ ms) x i))) (items d))
        ∙ ap (λ (z : Dir). dir (replaced n (Folder z) (items d))) (ih i) ∙ sym (changed_deeper y n m ms d i e)

-- what stands there, put there again
pub changed_same : (path : List (List ℕ)) (x : TreeNode) (d : Dir) → found path d ≡ Some x → changed path x d ≡ d
changed_same [] x d h = absurd (cc h)
changed_same (n ∷ []) x d h = ap dir (replaced_same n x (items d) h) ∙ dir_items d
changed_same (n ∷ m ∷ ms) x d h = by_node (node_in n (items d)) refl h (λ inside k. changed_same (m ∷ ms) x inside k)
  where
    by_node : (o : Option TreeNode) → node_in n (items d) ≡ o → found (n ∷ m ∷ ms) d ≡ Some x → ((inside : Dir) → found (m ∷ ms) inside ≡ Some x → changed (m ∷ ms) x inside ≡ inside)
        → changed (n ∷ m ∷ ms) x d ≡ d
    by_node None e h ih = rw e refl
    by_node (Some (File b t k)) e h ih = rw e refl
    by_node (Some (Link t)) e h ih = rw e refl
    by_node (Some (Folder i)) e h ih =
        changed_deeper x n m ms d i e ∙ ap (λ (z : Dir). dir (replaced n (Folder z) (items d))) (ih i (rw e at h)) ∙ ap dir (replaced_same n (Folder i) (items d) e) ∙ dir_items d

-- nothing stands where there is room
pub room_is_free : (path : List (List ℕ)) (d : Dir) → has_room path d ≡ true → found path d ≡ None
room_is_free path d h = found_held path d ∙ by_holder (last_name path) (holder path d) h
  where
    none_is : (o : Option TreeNode) → is_none o ≡ true → o ≡ None
    none_is None h = refl
    none_is (Some x) h = absurd (cc h)

    by_holder : (n : List ℕ) (o : Option Dir) → is_free n o ≡ true → node_held n o ≡ None
    by_holder n None h = refl
    by_holder n (Some folder) h = none_is (node_in n (items folder)) h
