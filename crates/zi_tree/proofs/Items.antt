-- The entries of a tree that is made of entries.
use Rattle.std.proofs.Common.{◌≡◌, ℕ, zero, suc, ◌<◌, true, false, List, [], ◌∷◌, length, Some, None, refl, sym, ◌∙◌, ap, slice_get, get_or, set, insert, arith, bytes_eq, ◌==◌, Result, Ok, Err, OnOk}
use Rattle.std.proofs.lemmas.Bool.Decides.{nat_tests}
use Rattle.zi_tree.specs.Dir.{Dir, Nothing}
use Rattle.zi_tree.specs.declared.tree.Entry.{Entry}
use Rattle.zi_tree.specs.declared.tree.TreeNode.{TreeNode}
use Rattle.zi_tree.specs.declared.tree.TreeNode.TheVariants.{File, Link, Folder}
use Rattle.zi_tree.specs.Views.{Item, entry_of, dir, items_of}
use Rattle.std.specs.Ordering.{is_lt, nat_cmp}
use Rattle.std.specs.Cmp.Lexicographic.{slice_cmp}
use Rattle.zi_tree.specs.Paths.{items, node_in, placed, replaced, is_last, inserted}
use Rattle.zi_tree.specs.Places.{IsAt, IsPlace}

pub items_of_entry : (n : List ℕ) (x : TreeNode) (rest : Dir) → items (entry_of n x rest) ≡ (n, x) ∷ items rest
items_of_entry n (File b e t) rest = refl
items_of_entry n (Link t) rest = refl
items_of_entry n (Folder d) rest = refl

pub items_of_dir : (is : List Item) → items (dir is) ≡ is
items_of_dir [] = refl
items_of_dir (i ∷ is) = items_of_entry i.0 i.1 (dir is) ∙ ap (λ l. i ∷ l) (items_of_dir is)

pub length_items : (es : List Entry) → length (items_of es) ≡ length es
length_items [] = refl
length_items (e ∷ es) = ap suc (length_items es)

pub get_items : (es : List Entry) (k : ℕ) (e : Entry) → slice_get es k ≡ Some e → slice_get (items_of es) k ≡ Some (e.name, e.node)
get_items [] k e h = absurd (cc h)
get_items (x ∷ es) zero e h = cc h
get_items (x ∷ es) (suc k) e h = get_items es k e h

pub none_from_all : (es : List Entry) (n : List ℕ) → ((k : ℕ) (d : Entry) → k < length es → bytes_eq (get_or es k d).name n ≡ false) → node_in n (items_of es) ≡ None
none_from_all [] n h = refl
none_from_all (x ∷ es) n h = rw (h 0 x (omega arith)) (none_from_all es n (λ k d lt. h (suc k) d (omega arith)))

pub at_from_first : (es : List Entry) (n : List ℕ) (i : ℕ) (e : Entry) → i < length es → ((k : ℕ) (d : Entry) → k < i → bytes_eq (get_or es k d).name n ≡ false) → bytes_eq (get_or es i e).name n ≡ true → IsAt n es i
at_from_first [] n i e lt h t = absurd (omega arith)
at_from_first (x ∷ es) n zero e lt h t = t
at_from_first (x ∷ es) n (suc i) e lt h t = (h 0 x (omega arith), at_from_first es n i e (omega arith) (λ k d l. h (suc k) d (omega arith)) t)

pub place_from_first : (es : List Entry) (n : List ℕ) (i : ℕ) (e : Entry) → i < length es → ((k : ℕ) (d : Entry) → k < i → is_lt (slice_cmp nat_cmp n (get_or es k d).name) ≡ false) → is_lt (slice_cmp nat_cmp n (get_or es i e).name) ≡ true → IsPlace n es i
place_from_first [] n i e lt h t = absurd (omega arith)
place_from_first (x ∷ es) n zero e lt h t = t
place_from_first (x ∷ es) n (suc i) e lt h t = (h 0 x (omega arith), place_from_first es n i e (omega arith) (λ k d l. h (suc k) d (omega arith)) t)

pub place_at_end : (es : List Entry) (n : List ℕ) → ((k : ℕ) (d : Entry) → k < length es → is_lt (slice_cmp nat_cmp n (get_or es k d).name) ≡ false) → IsPlace n es (length es)
place_at_end [] n h = refl
place_at_end (x ∷ es) n h = (h 0 x (omega arith), place_at_end es n (λ k d lt. h (suc k) d (omega arith)))

pub node_at_place : (es : List Entry) (n : List ℕ) (i : ℕ) (d : Entry) → IsAt n es i → node_in n (items_of es) ≡ Some (get_or es i d).node
node_at_place [] n i d at = absurd at
node_at_place (x ∷ es) n zero d at = rw at refl
node_at_place (x ∷ es) n (suc i) d at = rw at.0 (node_at_place es n i d at.1)

pub placed_at : (es : List Entry) (n : List ℕ) (i : ℕ) (x : TreeNode) → IsPlace n es i → placed n x (items_of es) ≡ items_of (insert es i (record { name = n; node = x }))
placed_at [] n i x at = rw at refl
placed_at (e ∷ es) n zero x at = rw at refl
placed_at (e ∷ es) n (suc i) x at = rw at.0 (ap (λ (l : List Item). (e.name, e.node) ∷ l) (placed_at es n i x at.1))

pub replaced_at : (es : List Entry) (n : List ℕ) (i : ℕ) (d : Entry) (x : TreeNode) → IsAt n es i → replaced n x (items_of es) ≡ items_of (set es i (record { name = (get_or es i d).name; node = x }))
replaced_at [] n i d x at = absurd at
replaced_at (e ∷ es) n zero d x at = rw at refl
replaced_at (e ∷ es) n (suc i) d x at = rw at.0 (ap (λ (l : List Item). (e.name, e.node) ∷ l) (replaced_at es n i d x at.1))

pub is_last_is : (ns : List (List ℕ)) → (length ns == 0) ≡ is_last ns
is_last_is [] = refl
is_last_is (n ∷ ns) = grind (arith, nat_tests)

pub node_is : (es : List Entry) (n : List ℕ) (i : ℕ) (x : Entry) (y : TreeNode) → IsAt n es i → x ≡ get_or es i x → x.node ≡ y → node_in n (items_of es) ≡ Some y
node_is es n i x y at is e = node_at_place es n i x at ∙ ap (λ (t : Entry). Some t.node) (sym is) ∙ ap Some e

pub replaced_is : (es : List Entry) (n : List ℕ) (i : ℕ) (x : Entry) (y : TreeNode) → IsAt n es i → x ≡ get_or es i x → items_of (set es i (record { name = x.name; node = y })) ≡ replaced n y (items_of es)
replaced_is es n i x y at is = ap (λ (t : Entry). let z : Entry = record { name = t.name; node = y } in items_of (set es i z)) is ∙ sym (replaced_at es n i x y at)

pub on_ok_then : {A B P Q : Type 0} (r : Result A B) → OnOk r P → (P → Q) → OnOk r Q
on_ok_then (Ok a) p f = f p
on_ok_then (Err b) p f = tt

pub inserted_last : (n : List ℕ) (ns : List (List ℕ)) (x : TreeNode) (d new : Dir) → is_last ns ≡ true → node_in n (items d) ≡ None → new ≡ dir (placed n x (items d)) → inserted (n ∷ ns) x d ≡ Some new
inserted_last n ns x d new h k e = rw (h, k, ← e) refl

pub overlap_last : (n : List ℕ) (ns : List (List ℕ)) (x y : TreeNode) (d : Dir) → is_last ns ≡ true → node_in n (items d) ≡ Some y → inserted (n ∷ ns) x d ≡ None
overlap_last n ns x y d h k = rw (h, k) refl

pub inserted_new : (n : List ℕ) (ns : List (List ℕ)) (x : TreeNode) (d inside new : Dir) → is_last ns ≡ false → node_in n (items d) ≡ None → inserted ns x Nothing ≡ Some inside → new ≡ dir (placed n (Folder inside) (items d)) → inserted (n ∷ ns) x d ≡ Some new
inserted_new n ns x d inside new h k i e = rw (h, k, i, ← e) refl

pub overlap_new : (n : List ℕ) (ns : List (List ℕ)) (x : TreeNode) (d : Dir) → is_last ns ≡ false → node_in n (items d) ≡ None → inserted ns x Nothing ≡ None → inserted (n ∷ ns) x d ≡ None
overlap_new n ns x d h k i = rw (h, k, i) refl

pub inserted_in : (n : List ℕ) (ns : List (List ℕ)) (x : TreeNode) (d inside after new : Dir) → is_last ns ≡ false → node_in n (items d) ≡ Some (Folder inside) → inserted ns x inside ≡ Some after → new ≡ dir (replaced n (Folder after) (items d)) → inserted (n ∷ ns) x d ≡ Some new
inserted_in n ns x d inside after new h k i e = rw (h, k, i, ← e) refl

pub overlap_in : (n : List ℕ) (ns : List (List ℕ)) (x : TreeNode) (d inside : Dir) → is_last ns ≡ false → node_in n (items d) ≡ Some (Folder inside) → inserted ns x inside ≡ None → inserted (n ∷ ns) x d ≡ None
overlap_in n ns x d inside h k i = rw (h, k, i) refl

pub overlap_file : (n : List ℕ) (ns : List (List ℕ)) (x y : TreeNode) (d : Dir) → is_last ns ≡ false → node_in n (items d) ≡ Some y → ((inside : Dir) → y ≡ Folder inside → ⊥) → inserted (n ∷ ns) x d ≡ None
overlap_file n ns x (File b e t) d h k no_folder = rw (h, k) refl
overlap_file n ns x (Link t) d h k no_folder = rw (h, k) refl
overlap_file n ns x (Folder i) d h k no_folder = absurd (no_folder i refl)

pub some_at : (es : List Entry) (n : List ℕ) (i : ℕ) → IsAt n es i → (y : TreeNode) × (node_in n (items_of es) ≡ Some y)
some_at [] n i at = absurd at
some_at (x ∷ es) n i at = ((get_or (x ∷ es) i x).node, node_at_place (x ∷ es) n i x at)

-- the entry of that number
pub entry_at : (es : List Entry) (k : ℕ) (d : Entry) → k < length es → slice_get (items_of es) k ≡ Some ((get_or es k d).name, (get_or es k d).node)
entry_at [] k d lt = absurd (omega arith)
entry_at (y ∷ es) zero d lt = refl
entry_at (y ∷ es) (suc k) d lt = entry_at es k d (omega arith)
