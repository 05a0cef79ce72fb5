-- Entries stay a tree: names are names, in order, and folders are trees.
use Rattle.std.proofs.Common.{◌≡◌, ◌≢◌, ℕ, zero, suc, ◌<◌, Bool, true, false, ◌&&◌, List, [], ◌∷◌, ◌++◌, length, Some, None, refl, sym, ◌∙◌, ap, arith, bytes_eq, get_or, set, insert, remove, if◌then◌else◌, Ordering}
use Rattle.std.specs.declared.cmp.Ordering.TheVariants.{Less, Equal, Greater}
use Rattle.std.specs.Ordering.{is_lt, nat_cmp, ordering_reverse}
use Rattle.std.specs.Cmp.Lexicographic.{slice_cmp}
use Rattle.std.proofs.lemmas.Cmp.{nat_list_cmp_total}
use Rattle.std.specs.FinMap.{slice_cmp-IsAntisymmetric, nat_cmp-IsAntisymmetric}
use Rattle.std.proofs.lemmas.Slice.Eq.{bytes_eq-Decides}
use Rattle.std.proofs.lemmas.Bool.{and_parts, and_from}
use Rattle.zi_tree.specs.Dir.{Dir}
use Rattle.zi_tree.specs.declared.tree.Entry.{Entry}
use Rattle.zi_tree.specs.declared.tree.TreeNode.{TreeNode}
use Rattle.zi_tree.specs.declared.tree.TreeNode.TheVariants.{File, Link, Folder}
use Rattle.zi_tree.specs.Views.{entry_of, items_of, dir_of, node_is_tree}
use Rattle.zi_tree.specs.Paths.{node_in}
use Rattle.zi_tree.specs.Places.{IsPlace}
use Rattle.zi_tree.specs.Order.{is_name, is_before, is_tree}
use Rattle.zi_text.proofs.ListLaws.{is_less}

abbrev pub Name : Type 0
Name = List ℕ

abbrev pub cmp : Name → Name → Ordering
cmp = slice_cmp nat_cmp

pub lt_trans : (a b c : Name) → is_lt (cmp a b) ≡ true → is_lt (cmp b c) ≡ true → is_lt (cmp a c) ≡ true
lt_trans a b c h k = ap is_lt (nat_list_cmp_total.trans a b c (is_less (cmp a b) h) (is_less (cmp b c) k))

pub lt_flip : (n m : Name) → is_lt (cmp n m) ≡ false → n ≢ m → is_lt (cmp m n) ≡ true
lt_flip n m h ne = by_case (cmp n m) refl h
  where
    by_case : (o : Ordering) → cmp n m ≡ o → is_lt o ≡ false → is_lt (cmp m n) ≡ true
    by_case Less e f = absurd (cc f)
    by_case Equal e f = absurd (ne (slice_cmp-IsAntisymmetric nat_cmp-IsAntisymmetric n m e))
    by_case Greater e f = ap is_lt (nat_list_cmp_total.antisymm m n ∙ ap ordering_reverse e)

pub greater_flip : (n m : Name) → cmp n m ≡ Greater → is_lt (cmp m n) ≡ true
greater_flip n m e = ap is_lt (nat_list_cmp_total.antisymm m n ∙ ap ordering_reverse e)

less_not : Less ≡ Greater → ⊥
less_not e = absurd (cc e)

-- and the other doesn't stand before it
pub lt_less : (n m : Name) → is_lt (cmp n m) ≡ true → is_lt (cmp m n) ≡ false
lt_less n m h = ap is_lt (nat_list_cmp_total.antisymm m n ∙ ap ordering_reverse (is_less (cmp n m) h))

-- a name that stands before another isn't that one
pub lt_apart : (n m : Name) → is_lt (cmp n m) ≡ true → bytes_eq n m ≡ false
lt_apart n m h = by_test (bytes_eq n m) refl
  where
    same : n ≡ m → ⊥
    same e = let l : cmp n n ≡ Less = ap (cmp n) e ∙ is_less (cmp n m) h in absurd (less_not (sym l ∙ nat_list_cmp_total.antisymm n n ∙ ap ordering_reverse l))

    by_test : (b : Bool) → bytes_eq n m ≡ b → bytes_eq n m ≡ false
    by_test false e = e
    by_test true e = absurd (same ((bytes_eq-Decides n m).0 e))

-- one entry in front
tree_entry : (n : Name) (x : TreeNode) (rest : Dir) → is_tree (entry_of n x rest) ≡ (node_is_tree x && (is_name n && (is_before n rest && is_tree rest)))
tree_entry n (File b e t) rest = refl
tree_entry n (Link t) rest = refl
tree_entry n (Folder d) rest = refl

pub before_entry : (m n : Name) (x : TreeNode) (rest : Dir) → is_before m (entry_of n x rest) ≡ (is_lt (cmp m n) && is_before m rest)
before_entry m n (File b e t) rest = refl
before_entry m n (Link t) rest = refl
before_entry m n (Folder d) rest = refl

pub record IsFirst (n : List ℕ) (x : TreeNode) (rest : Dir) : Type 0 where
  pub node : node_is_tree x ≡ true
  pub name : is_name n ≡ true
  pub before : is_before n rest ≡ true
  pub rest_ : is_tree rest ≡ true

pub parts : (n : Name) (x : TreeNode) (rest : Dir) → is_tree (entry_of n x rest) ≡ true → IsFirst n x rest
parts n x rest h =
    let p = and_parts (node_is_tree x) (is_name n && (is_before n rest && is_tree rest)) (sym (tree_entry n x rest) ∙ h) in
    let q = and_parts (is_name n) (is_before n rest && is_tree rest) p.1 in
    let r = and_parts (is_before n rest) (is_tree rest) q.1 in
    record { node = p.0; name = q.0; before = r.0; rest_ = r.1 }

pub whole : (n : Name) (x : TreeNode) (rest : Dir) → IsFirst n x rest → is_tree (entry_of n x rest) ≡ true
whole n x rest f =
    tree_entry n x rest ∙ and_from (node_is_tree x) (is_name n && (is_before n rest && is_tree rest)) f.node (and_from (is_name n) (is_before n rest && is_tree rest) f.name (and_from (is_before n rest) (is_tree rest) f.before f.rest_))

pub before_parts : (m n : Name) (x : TreeNode) (rest : Dir) → is_before m (entry_of n x rest) ≡ true → (is_lt (cmp m n) ≡ true) × (is_before m rest ≡ true)
before_parts m n x rest h = and_parts (is_lt (cmp m n)) (is_before m rest) (sym (before_entry m n x rest) ∙ h)

pub before_whole : (m n : Name) (x : TreeNode) (rest : Dir) → is_lt (cmp m n) ≡ true → is_before m rest ≡ true → is_before m (entry_of n x rest) ≡ true
before_whole m n x rest h k = before_entry m n x rest ∙ and_from (is_lt (cmp m n)) (is_before m rest) h k

before_all : (a b : Name) (es : List Entry) → is_lt (cmp a b) ≡ true → is_before b (dir_of es) ≡ true → is_before a (dir_of es) ≡ true
before_all a b [] h k = refl
before_all a b (e ∷ es) h k =
    let p = before_parts b e.name e.node (dir_of es) k in
    before_whole a e.name e.node (dir_of es) (lt_trans a b e.name h p.0) (before_all a b es h p.1)

before_at : (m : Name) (es : List Entry) (j : ℕ) (d : Entry) → is_before m (dir_of es) ≡ true → j < length es → is_lt (cmp m (get_or es j d).name) ≡ true
before_at m [] j d h lt = absurd (omega arith)
before_at m (e ∷ es) zero d h lt = (before_parts m e.name e.node (dir_of es) h).0
before_at m (e ∷ es) (suc j) d h lt = before_at m es j d (before_parts m e.name e.node (dir_of es) h).1 (omega arith)

-- names rise
pub rises : (es : List Entry) (i j : ℕ) (d : Entry) → is_tree (dir_of es) ≡ true → i < j → j < length es → is_lt (cmp (get_or es i d).name (get_or es j d).name) ≡ true
rises [] i j d h lt le = absurd (omega arith)
rises (e ∷ es) i zero d h lt le = absurd (omega arith)
rises (e ∷ es) zero (suc j) d h lt le = before_at e.name es j d (parts e.name e.node (dir_of es) h).before (omega arith)
rises (e ∷ es) (suc i) (suc j) d h lt le = rises es i j d (parts e.name e.node (dir_of es) h).rest_ (omega arith) (omega arith)

-- the front of a tree's entries
before_front : (m : Name) (es fs : List Entry) → is_before m (dir_of (es ++ fs)) ≡ true → is_before m (dir_of es) ≡ true
before_front m [] fs h = refl
before_front m (e ∷ es) fs h =
    let p = before_parts m e.name e.node (dir_of (es ++ fs)) h in
    before_whole m e.name e.node (dir_of es) p.0 (before_front m es fs p.1)

pub tree_front : (es fs : List Entry) → is_tree (dir_of (es ++ fs)) ≡ true → is_tree (dir_of es) ≡ true
tree_front [] fs h = refl
tree_front (e ∷ es) fs h =
    let f = parts e.name e.node (dir_of (es ++ fs)) h in
    whole e.name e.node (dir_of es) (record { node = f.node; name = f.name; before = before_front e.name es fs f.before; rest_ = tree_front es fs f.rest_ })

pub tree_last : (es : List Entry) (e : Entry) → is_tree (dir_of (es ++ e ∷ [])) ≡ true → node_is_tree e.node ≡ true
tree_last [] e h = (parts e.name e.node (dir_of []) h).node
tree_last (x ∷ es) e h = tree_last es e (parts x.name x.node (dir_of (es ++ e ∷ [])) h).rest_

before_hung : (m : Name) (es : List Entry) (e : Entry) (y : TreeNode) → is_before m (dir_of (es ++ e ∷ [])) ≡ true → is_before m (dir_of (es ++ record { name = e.name; node = y } ∷ [])) ≡ true
before_hung m [] e y h = before_whole m e.name y (dir_of []) (before_parts m e.name e.node (dir_of []) h).0 refl
before_hung m (x ∷ es) e y h =
    let p = before_parts m x.name x.node (dir_of (es ++ e ∷ [])) h in
    before_whole m x.name x.node (dir_of (es ++ record { name = e.name; node = y } ∷ [])) p.0 (before_hung m es e y p.1)

-- another node under the last name
pub tree_hung : (es : List Entry) (e : Entry) (y : TreeNode) → is_tree (dir_of (es ++ e ∷ [])) ≡ true → node_is_tree y ≡ true → is_tree (dir_of (es ++ record { name = e.name; node = y } ∷ [])) ≡ true
tree_hung [] e y h k = whole e.name y (dir_of []) (record { node = k; name = (parts e.name e.node (dir_of []) h).name; before = refl; rest_ = refl })
tree_hung (x ∷ es) e y h k =
    let f = parts x.name x.node (dir_of (es ++ e ∷ [])) h in
    whole x.name x.node (dir_of (es ++ record { name = e.name; node = y } ∷ [])) (record { node = f.node; name = f.name; before = before_hung x.name es e y f.before; rest_ = tree_hung es e y f.rest_ k })

-- one entry more, at its place
before_insert : (m : Name) (es : List Entry) (i : ℕ) (e : Entry) → is_before m (dir_of es) ≡ true → is_lt (cmp m e.name) ≡ true → is_before m (dir_of (insert es i e)) ≡ true
before_insert m [] zero e h k = before_whole m e.name e.node (dir_of []) k refl
before_insert m [] (suc i) e h k = before_whole m e.name e.node (dir_of []) k refl
before_insert m (x ∷ es) zero e h k = before_whole m e.name e.node (dir_of (x ∷ es)) k h
before_insert m (x ∷ es) (suc i) e h k =
    let p = before_parts m x.name x.node (dir_of es) h in
    before_whole m x.name x.node (dir_of (insert es i e)) p.0 (before_insert m es i e p.1 k)

other_first : (x : Entry) (es : List Entry) (n : Name) → node_in n (items_of (x ∷ es)) ≡ None → (n ≢ x.name) × (node_in n (items_of es) ≡ None)
other_first x es n =
    elim (bytes_eq x.name n) as (λ t. (x.name ≡ n → t ≡ true) → (if t then Some x.node else node_in n (items_of es)) ≡ None → (n ≢ x.name) × (node_in n (items_of es) ≡ None)) [
      | true ↦ λ d h. absurd (cc h)
      | false ↦ λ d h. (λ e. absurd (cc (d (sym e))), h)
    ] (bytes_eq-Decides x.name n).1

pub tree_insert : (es : List Entry) (n : Name) (i : ℕ) (x : TreeNode) → IsPlace n es i → node_in n (items_of es) ≡ None → is_name n ≡ true → node_is_tree x ≡ true → is_tree (dir_of es) ≡ true → is_tree (dir_of (insert es i (record { name = n; node = x }))) ≡ true
tree_insert [] n i x at free name ok h = rw at (whole n x (dir_of []) (record { node = ok; name = name; before = refl; rest_ = refl }))
tree_insert (e ∷ es) n zero x at free name ok h =
    let f = parts e.name e.node (dir_of es) h in
    whole n x (dir_of (e ∷ es)) (record { node = ok; name = name; before = before_whole n e.name e.node (dir_of es) at (before_all n e.name es at f.before); rest_ = h })
tree_insert (e ∷ es) n (suc i) x at free name ok h =
    let f = parts e.name e.node (dir_of es) h in
    let q = other_first e es n free in
    let new : Entry = record { name = n; node = x } in
    whole e.name e.node (dir_of (insert es i new)) (record { node = f.node; name = f.name; before = before_insert e.name es i new f.before (lt_flip n e.name at.0 q.0); rest_ = tree_insert es n i x at.1 q.1 name ok f.rest_ })

-- one entry less
before_remove : (m : Name) (es : List Entry) (i : ℕ) → is_before m (dir_of es) ≡ true → is_before m (dir_of (remove es i)) ≡ true
before_remove m [] zero h = refl
before_remove m [] (suc i) h = refl
before_remove m (x ∷ es) zero h = (before_parts m x.name x.node (dir_of es) h).1
before_remove m (x ∷ es) (suc i) h =
    let p = before_parts m x.name x.node (dir_of es) h in
    before_whole m x.name x.node (dir_of (remove es i)) p.0 (before_remove m es i p.1)

pub tree_remove : (es : List Entry) (i : ℕ) → is_tree (dir_of es) ≡ true → is_tree (dir_of (remove es i)) ≡ true
tree_remove [] zero h = refl
tree_remove [] (suc i) h = refl
tree_remove (x ∷ es) zero h = (parts x.name x.node (dir_of es) h).rest_
tree_remove (x ∷ es) (suc i) h =
    let f = parts x.name x.node (dir_of es) h in
    whole x.name x.node (dir_of (remove es i)) (record { node = f.node; name = f.name; before = before_remove x.name es i f.before; rest_ = tree_remove es i f.rest_ })

-- another node under the same name
before_set : (m : Name) (es : List Entry) (i : ℕ) (d : Entry) (y : TreeNode) → is_before m (dir_of es) ≡ true → is_before m (dir_of (set es i (record { name = (get_or es i d).name; node = y }))) ≡ true
before_set m [] i d y h = refl
before_set m (x ∷ es) zero d y h = before_whole m x.name y (dir_of es) (before_parts m x.name x.node (dir_of es) h).0 (before_parts m x.name x.node (dir_of es) h).1
before_set m (x ∷ es) (suc i) d y h =
    let p = before_parts m x.name x.node (dir_of es) h in
    before_whole m x.name x.node (dir_of (set es i (record { name = (get_or es i d).name; node = y }))) p.0 (before_set m es i d y p.1)

tree_set_at : (es : List Entry) (i : ℕ) (d : Entry) (y : TreeNode) → node_is_tree y ≡ true → is_tree (dir_of es) ≡ true → is_tree (dir_of (set es i (record { name = (get_or es i d).name; node = y }))) ≡ true
tree_set_at [] i d y k h = refl
tree_set_at (x ∷ es) zero d y k h =
    let f = parts x.name x.node (dir_of es) h in
    whole x.name y (dir_of es) (record { node = k; name = f.name; before = f.before; rest_ = f.rest_ })
tree_set_at (x ∷ es) (suc i) d y k h =
    let f = parts x.name x.node (dir_of es) h in
    whole x.name x.node (dir_of (set es i (record { name = (get_or es i d).name; node = y }))) (record { node = f.node; name = f.name; before = before_set x.name es i d y f.before; rest_ = tree_set_at es i d y k f.rest_ })

pub tree_set : (es : List Entry) (i : ℕ) (x : Entry) (y : TreeNode) → x ≡ get_or es i x → node_is_tree y ≡ true → is_tree (dir_of es) ≡ true → is_tree (dir_of (set es i (record { name = x.name; node = y }))) ≡ true
tree_set es i x y is k h = ap (λ (t : Entry). let z : Entry = record { name = t.name; node = y } in is_tree (dir_of (set es i z))) is ∙ tree_set_at es i x y k h

pub node_tree : (es : List Entry) (i : ℕ) (d : Entry) → i < length es → is_tree (dir_of es) ≡ true → node_is_tree (get_or es i d).node ≡ true
node_tree [] i d lt h = absurd (omega arith)
node_tree (x ∷ es) zero d lt h = (parts x.name x.node (dir_of es) h).node
node_tree (x ∷ es) (suc i) d lt h = node_tree es i d (omega arith) (parts x.name x.node (dir_of es) h).rest_
