-- The way down a tree and back.
use Rattle.std.proofs.Common.{◌≡◌, ℕ, ◌+◌, ◌<◌, ◌≤◌, Bool, true, false, List, [], ◌∷◌, Option, Some, None, option_map, take, drop, length, reverse, get_or, set, refl, sym, ◌∙◌, ap, subst, arith, add-one, length-drop}
use Rattle.std.proofs.lemmas.List.{reverse-append, take_more, take_all, set-get_or}
use Rattle.std.proofs.Math.Seq.{drop-cons}
use Rattle.zi_tree.specs.Dir.{Dir, Nothing}
use Rattle.zi_tree.specs.declared.tree.TreeNode.{TreeNode}
use Rattle.zi_tree.specs.declared.tree.TreeNode.TheVariants.{File, Link, Folder}
use Rattle.zi_tree.specs.declared.tree.Entry.{Entry}
use Rattle.zi_tree.specs.Order.{is_tree}
use Rattle.zi_tree.specs.Places.{IsAt}
use Rattle.zi_tree.proofs.Order.{tree_set, node_tree}
use Rattle.zi_tree.specs.Views.{Item, dir, dir_of, items_of, inside_of, node_is_tree}
use Rattle.zi_tree.specs.Paths.{items, node_in, replaced, is_last, found, inserted, removed, changed}
use Rattle.zi_tree.specs.Ways.{joined, folder_at, IsWay, way, Leads, HasNoFolder, IsStopped, Enters, Exchanges, Swaps}
use Rattle.zi_tree.proofs.Items.{items_of_dir, node_is, replaced_is}
use Rattle.zi_tree.proofs.Replaced.{dir_items, replaced_twice, node_replaced, replaced_same}

map_map : {A B C : Type 0} (f : B → C) (g : A → B) (h : A → C) → ((x : A) → f (g x) ≡ h x) → (o : Option A) → option_map f (option_map g o) ≡ option_map h o
map_map f g h e None = refl
map_map f g h e (Some x) = ap Some (e x)

map_same : {A : Type 0} (f : A → A) → ((x : A) → f x ≡ x) → (o : Option A) → o ≡ option_map f o
map_same f e None = refl
map_same f e (Some x) = ap Some (sym (e x))

-- one more name of the way
way_more : (path : List (List ℕ)) (k : ℕ) (d : List ℕ) → k < length path → way path (k + 1) ≡ get_or path k d ∷ way path k
way_more path k d lt = ap reverse (take_more path k d lt) ∙ reverse-append (take k path) (get_or path k d ∷ [])

-- the two next parts
drop_next : (path : List (List ℕ)) (k : ℕ) (d : List ℕ) → k < length path → drop k path ≡ get_or path k d ∷ drop (k + 1) path
drop_next path k d lt = drop-cons path k d lt ∙ ap (λ j. get_or path k d ∷ drop j path) (sym (add-one k))

-- the folder above, once it hangs in the place of the one that was entered
hung_folder : (n : List ℕ) (x : TreeNode) (above here : Dir) → node_in n (items here) ≡ Some x → node_in n (items (dir (replaced n (Folder above) (items here)))) ≡ Some (Folder above)
hung_folder n x above here h = ap (node_in n) (items_of_dir (replaced n (Folder above) (items here))) ∙ node_replaced n x (Folder above) (items here) h

folder_hung : (n : List ℕ) (x : TreeNode) (above here : Dir) → node_in n (items here) ≡ Some x → folder_at n (dir (replaced n (Folder above) (items here))) ≡ above
folder_hung n x above here h = rw (hung_folder n x above here h) refl

joined_in : (n : List ℕ) (ns : List (List ℕ)) (x : TreeNode) (above here c : Dir) → node_in n (items here) ≡ Some x
    → joined (n ∷ ns) (dir (replaced n (Folder above) (items here))) c ≡ joined ns above (dir (replaced n (Folder c) (items here)))
joined_in n ns x above here c h =
    ap (λ (g : Dir). joined ns g (dir (replaced n (Folder c) (items (dir (replaced n (Folder above) (items here))))))) (folder_hung n x above here h)
    ∙ ap (λ (l : List Item). joined ns above (dir (replaced n (Folder c) l))) (items_of_dir (replaced n (Folder above) (items here)))
    ∙ ap (λ (l : List Item). joined ns above (dir l)) (replaced_twice n (Folder above) (Folder c) (items here))

-- at the top
pub leads_start : (path : List (List ℕ)) (whole : Dir) → Leads path whole 0 Nothing whole
leads_start path whole = record {
  within = omega arith;
  hung = tt;
  back = refl;
  inserts = λ x. map_same (λ c. c) (λ c. refl) (inserted path x whole);
  finds = refl;
  removes = refl;
  changes = λ x. refl;
}

not_last : (ns : List (List ℕ)) (k : ℕ) (path : List (List ℕ)) → ns ≡ drop (k + 1) path → k + 1 < length path → is_last ns ≡ false
not_last [] k path e lt = absurd (none_left k path e lt)
  where
    none_left : (k : ℕ) (path : List (List ℕ)) → [] ≡ drop (k + 1) path → k + 1 < length path → ⊥
    none_left k path e lt = absurd (cc (e, drop-cons path (k + 1) [] lt))
not_last (n ∷ ns) k path e lt = refl

-- a folder deeper
pub leads_in : (path : List (List ℕ)) (whole above here above' here' : Dir) (k : ℕ) (n : List ℕ) → Leads path whole k above here → k + 1 < length path → n ≡ get_or path k n
    → Enters n above here true above' here' → Leads path whole (k + 1) above' here'
leads_in path whole above here above' here' k n l lt is e =
    let ns = drop (k + 1) path in
    let next : drop k path ≡ n ∷ ns = drop_next path k n (omega arith) ∙ ap (λ m. m ∷ ns) (sym is) in
    let more : way path (k + 1) ≡ n ∷ way path k = way_more path k n (omega arith) ∙ ap (λ m. m ∷ way path k) (sym is) in
    let last : is_last ns ≡ false = not_last ns k path refl lt in
    let turn : (c : Dir) → joined (n ∷ way path k) above' c ≡ joined (way path k) above (dir (replaced n (Folder c) (items here))) =
    λ c. ap (λ (a : Dir). joined (n ∷ way path k) a c) e.1 ∙ joined_in n (way path k) (Folder here') above here c e.0 in
    record {
      within = omega arith;
      hung = subst (λ w. IsWay w above') (sym more) (subst (λ (a : Dir). IsWay (n ∷ way path k) a) (sym e.1) (
        hung_folder n (Folder here') above here e.0 ∙ ap (λ (g : Dir). Some (Folder g)) (sym (folder_hung n (Folder here') above here e.0)),
        subst (IsWay (way path k)) (sym (folder_hung n (Folder here') above here e.0)) l.hung,
      ));
      back = ap (λ w. joined w above' here') more ∙ turn here' ∙ ap (λ (i : List Item). joined (way path k) above (dir i)) (replaced_same n (Folder here') (items here) e.0) ∙ ap (joined (way path k) above) (dir_items here) ∙ l.back;
      inserts = λ x. l.inserts x ∙ ap (λ p. option_map (joined (way path k) above) (inserted p x here)) next
          ∙ ap (option_map (joined (way path k) above)) (inserted_deeper x n ns here here' last e.0)
          ∙ map_map (joined (way path k) above) (λ (c : Dir). dir (replaced n (Folder c) (items here))) (joined (n ∷ way path k) above') (λ c. sym (turn c)) (inserted ns x here')
          ∙ ap (λ w. option_map (joined w above') (inserted ns x here')) (sym more);
      finds = l.finds ∙ ap (λ p. found p here) next ∙ found_deeper n ns here here' last e.0;
      removes = l.removes ∙ ap (λ p. joined (way path k) above (removed p here)) next ∙ ap (joined (way path k) above) (removed_deeper n ns here here' last e.0) ∙ sym (turn (removed ns here')) ∙ ap (λ w. joined w above' (removed ns here')) (sym more);
      changes = λ x. l.changes x ∙ ap (λ p. joined (way path k) above (changed p x here)) next ∙ ap (joined (way path k) above) (changed_deeper x n ns here here' last e.0) ∙ sym (turn (changed ns x here')) ∙ ap (λ w. joined w above' (changed ns x here')) (sym more);
    }
  where
    inserted_deeper : (x : TreeNode) (n : List ℕ) (ns : List (List ℕ)) (here here' : Dir) → is_last ns ≡ false → node_in n (items here) ≡ Some (Folder here') → inserted (n ∷ ns) x here ≡ option_map (λ (c : Dir). dir (replaced n (Folder c) (items here))) (inserted ns x here')
    inserted_deeper x n ns here here' h k = rw (h, k) refl

    found_deeper : (n : List ℕ) (ns : List (List ℕ)) (here here' : Dir) → is_last ns ≡ false → node_in n (items here) ≡ Some (Folder here') → found (n ∷ ns) here ≡ found ns here'
    found_deeper n ns here here' h k = rw (h, k) refl

    removed_deeper : (n : List ℕ) (ns : List (List ℕ)) (here here' : Dir) → is_last ns ≡ false → node_in n (items here) ≡ Some (Folder here') → removed (n ∷ ns) here ≡ dir (replaced n (Folder (removed ns here')) (items here))
    removed_deeper n ns here here' h k = rw (h, k) refl

    changed_deeper : (x : TreeNode) (n : List ℕ) (ns : List (List ℕ)) (here here' : Dir) → is_last ns ≡ false → node_in n (items here) ≡ Some (Folder here') → changed (n ∷ ns) x here ≡ dir (replaced n (Folder (changed ns x here')) (items here))
    changed_deeper x n ns here here' h k = rw (h, k) refl

-- stopped before a part that leads to no folder, and at the last one
pub stopped_before : (path : List (List ℕ)) (here : Dir) (k : ℕ) (n : List ℕ) → k + 1 < length path → n ≡ get_or path k n → HasNoFolder n here → IsStopped (drop k path) here
stopped_before path here k n lt is without_ = subst (λ p. IsStopped p here) (sym (drop_next path k n (omega arith) ∙ ap (λ m. m ∷ drop (k + 1) path) (sym is))) (by_rest (drop (k + 1) path))
  where
    by_rest : (ns : List (List ℕ)) → IsStopped (n ∷ ns) here
    by_rest [] = tt
    by_rest (m ∷ ms) = without_

pub stopped_last : (path : List (List ℕ)) (here : Dir) (k : ℕ) → length path ≤ k + 1 → IsStopped (drop k path) here
stopped_last path here k le = by_rest (drop k path) (length-left k path le)
  where
    length-left : (k : ℕ) (path : List (List ℕ)) → length path ≤ k + 1 → length (drop k path) ≤ 1
    length-left k path le = omega (arith, length-drop k path)

    by_rest : (ns : List (List ℕ)) → length ns ≤ 1 → IsStopped ns here
    by_rest [] h = tt
    by_rest (m ∷ []) h = tt
    by_rest (m ∷ n ∷ ns) h = absurd (omega arith)

-- the way back
pub way_all : (path : List (List ℕ)) → way path (length path) ≡ reverse path
way_all path = ap reverse (take_all (length path) path (omega arith))

pub way_taken : (path : List (List ℕ)) (k : ℕ) → k ≤ length path → reverse (take k path) ≡ way path k
way_taken path k le = refl

pub back_name : (path : List (List ℕ)) (k : ℕ) (n : List ℕ) → k < length path → n ≡ get_or path k n → way path (k + 1) ≡ n ∷ way path k
back_name path k n lt is = way_more path k n lt ∙ ap (λ m. m ∷ way path k) (sym is)

-- a folder among entries, exchanged
pub exchanged : (es : List Entry) (n : List ℕ) (i : ℕ) (x : Entry) (y : TreeNode) (d e : Dir) (r : Bool) → IsAt n es i → x ≡ get_or es i x → Swaps x.node d r y e → Exchanges n d (dir_of es) r (dir_of (set es i (record { name = x.name; node = y }))) e
exchanged es n i x y d e true at is s = (
  ap (node_in n) (items_of_dir (items_of es)) ∙ node_is es n i x (Folder e) at is s.0,
  ap dir (replaced_is es n i x y at is) ∙ ap (λ (z : TreeNode). dir (replaced n z (items_of es))) s.1 ∙ ap (λ (l : List Item). dir (replaced n (Folder d) l)) (sym (items_of_dir (items_of es))),
)
exchanged es n i x y d e false at is s = (
  ap (λ (z : TreeNode). let w : Entry = record { name = x.name; node = z } in dir_of (set es i w)) s.0 ∙ ap (λ (w : Entry). dir_of (set es i w)) is ∙ ap dir_of (set-get_or es i x),
  s.1,
  λ inside h. no_folder x.node inside s.2 (node_in n (items (dir_of es))) (ap (node_in n) (items_of_dir (items_of es)) ∙ node_is es n i x x.node at is refl) h,
)
  where
    no_folder : (z : TreeNode) (inside : Dir) → inside_of z ≡ None → (o : Option TreeNode) → o ≡ Some z → o ≡ Some (Folder inside) → ⊥
    no_folder (File b t m) inside f o h k = absurd (cc (h, k))
    no_folder (Link t) inside f o h k = absurd (cc (h, k))
    no_folder (Folder w) inside f o h k = absurd (cc f)

pub exchanged_tree : (es : List Entry) (i : ℕ) (x : Entry) (y : TreeNode) (d e : Dir) (r : Bool) → i < length es → x ≡ get_or es i x → Swaps x.node d r y e → is_tree d ≡ true → is_tree (dir_of es) ≡ true → is_tree (dir_of (set es i (record { name = x.name; node = y }))) ≡ true
exchanged_tree es i x y d e true lt is s t h = tree_set es i x y is (ap node_is_tree s.1 ∙ t) h
exchanged_tree es i x y d e false lt is s t h = tree_set es i x y is (ap node_is_tree s.0 ∙ ap (λ (w : Entry). node_is_tree w.node) is ∙ node_tree es i x lt h) h

pub none_exchanged : (n : List ℕ) (d e : Dir) → node_in n (items d) ≡ None → Exchanges n e d false d e
none_exchanged n d e h = (refl, refl, λ inside k. no_node inside (node_in n (items d)) h k)
  where
    no_node : (inside : Dir) (o : Option TreeNode) → o ≡ None → o ≡ Some (Folder inside) → ⊥
    no_node inside o h k = absurd (cc (h, k))

-- the folder above, left
pub left_folder : (n : List ℕ) (above here above' here' : Dir) (r : Bool) → node_in n (items above) ≡ Some (Folder (folder_at n above)) → Exchanges n here above r here' above' → (above' ≡ folder_at n above) × (here' ≡ dir (replaced n (Folder here) (items above)))
left_folder n above here above' here' true h e = (same_folder above' (folder_at n above) (node_in n (items above)) e.0 h, e.1)
  where
    same_folder : (a b : Dir) (o : Option TreeNode) → o ≡ Some (Folder a) → o ≡ Some (Folder b) → a ≡ b
    same_folder a b o h k = cc (h, k)
left_folder n above here above' here' false h e = absurd (e.2 (folder_at n above) h)

pub exchanged_at : (all : Dir) (es : List Entry) (n : List ℕ) (i : ℕ) (x : Entry) (y : TreeNode) (d e : Dir) (r : Bool) → dir_of es ≡ all → IsAt n es i → x ≡ get_or es i x → Swaps x.node d r y e → Exchanges n d all r (dir_of (set es i (record { name = x.name; node = y }))) e
exchanged_at all es n i x y d e r v at is s = subst (λ (t : Dir). Exchanges n d t r (dir_of (set es i (record { name = x.name; node = y }))) e) v (exchanged es n i x y d e r at is s)
