-- What the rest of a path does to the folder where the way down ended.
use Rattle.std.proofs.Common.{◌≡◌, ℕ, zero, suc, ◌+◌, ◌<◌, ◌≤◌, Bool, true, false, ◌&&◌, List, [], ◌∷◌, Option, Some, None, drop, length, get_or, remove, is_some, refl, sym, ◌∙◌, ap, arith, add-one}
use Rattle.std.specs.List.{list_all}
use Rattle.std.proofs.Math.Seq.{drop-cons}
use Rattle.zi_tree.specs.Dir.{Dir, Nothing}
use Rattle.zi_tree.specs.declared.tree.Entry.{Entry}
use Rattle.zi_tree.specs.declared.tree.TreeNode.{TreeNode}
use Rattle.zi_tree.specs.declared.tree.TreeNode.TheVariants.{File, Link, Folder}
use Rattle.zi_tree.specs.Views.{Item, dir, items_of}
use Rattle.zi_tree.specs.Places.{IsAt}
use Rattle.zi_tree.specs.Order.{is_name}
use Rattle.zi_tree.specs.Paths.{items, node_in, placed, replaced, without, found, inserted, placed_new, below, removed, changed, nested}
use Rattle.zi_tree.specs.Ways.{IsStopped}
use Rattle.zi_tree.proofs.Replaced.{dir_items, replaced_same, replaced_none, without_none}

-- new folders, one in another
nested_inserted : (m : List ℕ) (ms : List (List ℕ)) (x : TreeNode) → inserted (m ∷ ms) x Nothing ≡ Some (dir ((m, nested ms x) ∷ []))
nested_inserted m [] x = refl
nested_inserted m (n ∷ ns) x = rw (nested_inserted n ns x) refl

pub put_rest : (n : List ℕ) (ns : List (List ℕ)) (x : TreeNode) (d : Dir) → node_in n (items d) ≡ None → inserted (n ∷ ns) x d ≡ Some (dir (placed n (nested ns x) (items d)))
put_rest n [] x d h = rw h refl
put_rest n (m ∷ ms) x d h = rw (h, nested_inserted m ms x) refl

pub overlap_rest : (n : List ℕ) (ns : List (List ℕ)) (x : TreeNode) (d : Dir) → IsStopped (n ∷ ns) d → is_some (node_in n (items d)) ≡ true → inserted (n ∷ ns) x d ≡ None
overlap_rest n [] x d s h0 = elim (node_in n (items d)) as (λ o. is_some o ≡ true → placed_new n x d o ≡ None) [ None ↦ λ h. absurd (cc h) | Some y ↦ λ h. refl ] h0
overlap_rest n (m ∷ ms) x d s h0 = by_node (node_in n (items d)) refl h0
  where
    by_node : (o : Option TreeNode) → node_in n (items d) ≡ o → is_some o ≡ true → below n d (node_in n (items d)) (λ inside. inserted (m ∷ ms) x inside) ≡ None
    by_node None e h = absurd (cc h)
    by_node (Some (File b t k)) e h = rw e refl
    by_node (Some (Link t)) e h = rw e refl
    by_node (Some (Folder i)) e h = absurd (s i e)

-- one new folder more
pub nested_more : (names : List (List ℕ)) (k : ℕ) (n : List ℕ) (x : TreeNode) → k < length names → n ≡ get_or names k n → nested (drop k names) x ≡ Folder (dir ((n, nested (drop (k + 1) names) x) ∷ []))
nested_more names k n x lt is = ap (λ ns. nested ns x) (drop-cons names k n lt ∙ ap (λ j. get_or names k n ∷ drop j names) (sym (add-one k)) ∙ ap (λ m. m ∷ drop (k + 1) names) (sym is))

pub name_at_place : (names : List (List ℕ)) (k : ℕ) (n : List ℕ) → k < length names → n ≡ get_or names k n → list_all is_name names ≡ true → is_name n ≡ true
name_at_place names k n lt is h = ap is_name is ∙ at names k n lt h
  where
    at : (l : List (List ℕ)) (k : ℕ) (d : List ℕ) → k < length l → list_all is_name l ≡ true → is_name (get_or l k d) ≡ true
    at [] k d lt h = absurd (omega arith)
    at (x ∷ xs) zero d lt h = first (is_name x) (list_all is_name xs) h
      where
        first : (a b : Bool) → (a && b) ≡ true → a ≡ true
        first true b h = refl
        first false b h = absurd (cc h)
    at (x ∷ xs) (suc k) d lt h = at xs k d (omega arith) (second (is_name x) (list_all is_name xs) h)
      where
        second : (a b : Bool) → (a && b) ≡ true → b ≡ true
        second true b h = h
        second false b h = absurd (cc h)

pub names_left : (names : List (List ℕ)) (k : ℕ) → list_all is_name names ≡ true → list_all is_name (drop k names) ≡ true
names_left names zero h = h
names_left [] (suc k) h = refl
names_left (x ∷ xs) (suc k) h = names_left xs k (second (is_name x) (list_all is_name xs) h)
  where
    second : (a b : Bool) → (a && b) ≡ true → b ≡ true
    second true b h = h
    second false b h = absurd (cc h)

-- an entry out
pub without_at : (es : List Entry) (n : List ℕ) (i : ℕ) → IsAt n es i → without n (items_of es) ≡ items_of (remove es i)
without_at [] n i at = absurd at
without_at (x ∷ es) n zero at = rw at refl
without_at (x ∷ es) n (suc i) at = rw at.0 (ap (λ (l : List Item). (x.name, x.node) ∷ l) (without_at es n i at.1))

pub taken_none : (n : List ℕ) (d : Dir) → node_in n (items d) ≡ None → d ≡ dir (without n (items d))
taken_none n d h = sym (ap dir (without_none n (items d) h) ∙ dir_items d)

-- no last part: nothing there, nothing taken
pub found_stopped : (n m : List ℕ) (ms : List (List ℕ)) (d : Dir) → IsStopped (n ∷ m ∷ ms) d → (None ≡ found (n ∷ m ∷ ms) d) × (d ≡ removed (n ∷ m ∷ ms) d)
found_stopped n m ms d s = by_node (node_in n (items d)) refl
  where
    by_node : (o : Option TreeNode) → node_in n (items d) ≡ o → (None ≡ found (n ∷ m ∷ ms) d) × (d ≡ removed (n ∷ m ∷ ms) d)
    by_node None e = (rw e refl, rw e refl)
    by_node (Some (File b t k)) e = (rw e refl, rw e refl)
    by_node (Some (Link t)) e = (rw e refl, rw e refl)
    by_node (Some (Folder i)) e = absurd (s i e)

pub not_one : (rest : List (List ℕ)) (d : Dir) → ((n : List ℕ) → rest ≡ n ∷ [] → ⊥) → IsStopped rest d → (None ≡ found rest d) × (d ≡ removed rest d)
not_one [] d h s = (refl, refl)
not_one (n ∷ []) d h s = absurd (h n refl)
not_one (n ∷ m ∷ ms) d h s = found_stopped n m ms d s

pub unchanged : (n : List ℕ) (x : TreeNode) (d : Dir) → node_in n (items d) ≡ None → d ≡ changed (n ∷ []) x d
unchanged n x d h = sym (ap dir (replaced_none n x (items d) h) ∙ dir_items d)

-- no last part: nothing changed
pub not_one_changed : (rest : List (List ℕ)) (x : TreeNode) (d : Dir) → ((n : List ℕ) → rest ≡ n ∷ [] → ⊥) → IsStopped rest d → d ≡ changed rest x d
not_one_changed [] x d h s = refl
not_one_changed (n ∷ []) x d h s = absurd (h n refl)
not_one_changed (n ∷ m ∷ ms) x d h s = by_node (node_in n (items d)) refl
  where
    by_node : (o : Option TreeNode) → node_in n (items d) ≡ o → d ≡ changed (n ∷ m ∷ ms) x d
    by_node None e = rw e refl
    by_node (Some (File b t k)) e = rw e refl
    by_node (Some (Link t)) e = rw e refl
    by_node (Some (Folder i)) e = absurd (s i e)

-- where nothing stands at the path, nothing is removed
pub none_removed : (path : List (List ℕ)) (d : Dir) → found path d ≡ None → removed path d ≡ d
none_removed [] d h = refl
none_removed (n ∷ []) d h = sym (taken_none n d h)
none_removed (n ∷ m ∷ ms) d h = by_node (node_in n (items d)) refl h (λ inside k. none_removed (m ∷ ms) inside k)
  where
    by_node : (o : Option TreeNode) → node_in n (items d) ≡ o → found (n ∷ m ∷ ms) d ≡ None → ((inside : Dir) → found (m ∷ ms) inside ≡ None → removed (m ∷ ms) inside ≡ inside) → removed (n ∷ m ∷ ms) d ≡ d
    by_node None e h ih = rw e refl
    by_node (Some (File b t k)) e h ih = rw e refl
    by_node (Some (Link t)) e h ih = rw e refl
    by_node (Some (Folder i)) e h ih =
        rw e (ap (λ (y : Dir). dir (replaced n (Folder y) (items d))) (ih i (rw e at h)) ∙ ap dir (replaced_same n (Folder i) (items d) e) ∙ dir_items d)

pub one_is : (rest : List (List ℕ)) (n : List ℕ) → 1 ≤ length rest → length rest < 2 → n ≡ get_or rest 0 n → rest ≡ n ∷ []
one_is [] n h k e = absurd (omega arith)
one_is (m ∷ []) n h k e = ap (λ x. x ∷ []) (sym e)
one_is (m ∷ l ∷ ls) n h k e = absurd (omega arith)

pub first_is : (rest : List (List ℕ)) (n : List ℕ) → 1 ≤ length rest → n ≡ get_or rest 0 n → rest ≡ n ∷ drop 1 rest
first_is [] n h e = absurd (omega arith)
first_is (m ∷ ls) n h e = ap (λ x. x ∷ ls) (sym e)

pub none_is : {A : Type 0} (o : Option A) → is_some o ≡ false → o ≡ None
none_is None h = refl
none_is (Some x) h = absurd (cc h)
