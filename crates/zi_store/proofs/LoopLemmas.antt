-- A folder's entries, read one by one.
use Rattle.std.proofs.Common.{◌≡◌, ◌<◌, ◌≤◌, ◌+◌, length, get_or, drop, ℕ, Bool, true, List, [], ◌∷◌, ◌++◌, Option, Some, None, Result, Err, refl, sym, ◌∙◌, ap, subst, append_assoc}
use Rattle.std.proofs.lemmas.List.{append-nil, drop_more}
use Rattle.std.proofs.Math.ListN.{drop_of_length-le}
use Rattle.zi_tree.specs.Dir.{Dir, Nothing, AFile, ALink, AFolder}
use Rattle.zi_tree.specs.declared.tree.TreeNode.{TreeNode}
use Rattle.zi_tree.specs.declared.tree.TreeNode.TheVariants.{File, Link, Folder}
use Rattle.zi_tree.specs.Order.{is_tree, is_plain}
use Rattle.zi_tree.specs.Paths.{items, node_in, placed, replaced}
use Rattle.zi_tree.specs.Views.{Item, dir, node_is_tree}
use Rattle.zi_tree.proofs.Items.{items_of_dir}
use Rattle.zi_tree.proofs.Replaced.{dir_items}
use Rattle.zi_manifest.specs.Walk.{shown}
use Rattle.zi_shelf.specs.Names.{Name}
use Rattle.zi_shelf.specs.Told.{Told}
use Rattle.zi_shelf.specs.Reading.{kind_of}
use Rattle.zi_shelf.specs.declared.shelf.Entry.{Entry}
use Rattle.zi_store.specs.Walking.{Met, leaves_met, folders_met, met, Passes, Stops}
use Rattle.zi_store.specs.Standing.{Stands, IsListed}
use Rattle.zi_store.specs.Entries.{entries_of, bare, emptied, leaf_met, inner_met, Walks}
use Rattle.zi_store.specs.declared.stop.Stop.{Stop}
use Rattle.zi_store.specs.declared.stop.Stop.TheVariants as stop
use Rattle.std.specs.Str.{is_utf8}
use Rattle.std.proofs.lemmas.Bool.{and_parts}
use Rattle.zi_store.proofs.FrontLemmas.{bared, bared_append, IsBehind, behind_bared, behind_front, part_there, free_behind, placed_behind, node_there, replaced_there, emptied_bared, tree_shown, node_shown}
use Rattle.zi_store.proofs.StandingLemmas.{node_below}
use Rattle.zi_store.proofs.WalkLemmas.{leaves_entry, folders_entry, passes_none, passes_then, stops_then, stops_early}

-- A folder's entries, of which so many are left: those so far, and the rest.
pub record Split (s : Dir) (left : List Entry) : Type 0 where
  pub done : List Item
  pub rest : Dir
  pub split : items s ≡ done ++ items rest
  pub is : left ≡ entries_of rest

-- the first of the rest
pub record Next (rest : Dir) (e : Entry) (es : List Entry) : Type 0 where
  pub node : TreeNode
  pub after : Dir
  pub is : items rest ≡ (e.name, node) ∷ items after
  pub kind : e.kind ≡ kind_of node
  pub left : es ≡ entries_of after

next_of : (rest : Dir) (e : Entry) (es : List Entry) → e ∷ es ≡ entries_of rest → Next rest e es
next_of Nothing e es k = absurd (cc k)
next_of (AFile n b x t rest) e es k =
    let q : e ≡ record { name = n; kind = kind_of (File b x t) } = cc k in record {
      node = File b x t;
      after = rest;
      is = ap (λ (z : Entry). (z.name, File b x t) ∷ items rest) (sym q);
      kind = ap (λ (z : Entry). z.kind) q;
      left = cc k;
    }
next_of (ALink n t rest) e es k =
    let q : e ≡ record { name = n; kind = kind_of (Link t) } = cc k in record {
      node = Link t;
      after = rest;
      is = ap (λ (z : Entry). (z.name, Link t) ∷ items rest) (sym q);
      kind = ap (λ (z : Entry). z.kind) q;
      left = cc k;
    }
next_of (AFolder n inside rest) e es k =
    let q : e ≡ record { name = n; kind = kind_of (Folder inside) } = cc k in record {
      node = Folder inside;
      after = rest;
      is = ap (λ (z : Entry). (z.name, Folder inside) ∷ items rest) (sym q);
      kind = ap (λ (z : Entry). z.kind) q;
      left = cc k;
    }

none_left : (rest : Dir) → [] ≡ entries_of rest → items rest ≡ []
none_left Nothing h = refl
none_left (AFile n b x t rest) h = absurd (cc h)
none_left (ALink n t rest) h = absurd (cc h)
none_left (AFolder n inside rest) h = absurd (cc h)

-- what is true of the next entry of a folder
pub record Turn (s : Dir) (e : Entry) (es : List Entry) (done : List Item) (rest : Dir) : Type 0 where
  pub node : TreeNode
  pub after : Dir
  pub is : items rest ≡ (e.name, node) ∷ items after
  pub whole : items s ≡ done ++ (e.name, node) ∷ items after
  pub kind : e.kind ≡ kind_of node
  pub left : es ≡ entries_of after
  pub behind : IsBehind e.name done
  pub node_tree : node_is_tree node ≡ true
  pub name : is_plain e.name ≡ true

pub turn : (s : Dir) (e : Entry) (es left : List Entry) (p : Split s left) → left ≡ e ∷ es → is_tree s ≡ true → Turn s e es p.done p.rest
turn s e es left p h t =
    let n = next_of p.rest e es (sym h ∙ p.is) in
    let whole : items s ≡ p.done ++ (e.name, n.node) ∷ items n.after = p.split ∙ ap (λ (l : List Item). p.done ++ l) n.is in
    let tree : is_tree (dir (p.done ++ (e.name, n.node) ∷ items n.after)) ≡ true = subst (λ (l : List Item). is_tree (dir l) ≡ true) whole (subst (λ z. is_tree z ≡ true) (sym (dir_items s)) t) in
    let part = part_there e.name n.node p.done (items n.after) tree in record {
      node = n.node;
      after = n.after;
      is = n.is;
      whole = whole;
      kind = n.kind;
      left = n.left;
      behind = behind_front e.name n.node p.done (items n.after) tree;
      node_tree = part.node;
      name = (and_parts (is_utf8 e.name) (is_plain e.name) part.name).1;
    }

-- with it, those so far are one more
abbrev pub split_more : (s : Dir) (e : Entry) (es : List Entry) (done : List Item) (rest : Dir) → Turn s e es done rest → Split s es
split_more s e es done rest t = record {
  done = done ++ (e.name, t.node) ∷ [];
  rest = t.after;
  split = t.whole ∙ sym (append_assoc done ((e.name, t.node) ∷ []) (items t.after));
  is = t.left;
}

pub split_end : (s : Dir) (left : List Entry) (p : Split s left) → left ≡ [] → (p.done ≡ items s) × (items p.rest ≡ [])
split_end s left p h =
    let none = none_left p.rest (sym h ∙ p.is) in
    (sym (p.split ∙ ap (λ (l : List Item). p.done ++ l) none ∙ append-nil p.done), none)

-- it stands in the folder
pub turn_listed : {h : Type 0} {told : Option Told} {top : Name} {path : List Name} (whole : Bool) (d : Dir) (e : Entry) (es : List Entry) (done : List Item) (rest : Dir)
    → Stands h told top path d → is_tree d ≡ true → (t : Turn (shown whole d) e es done rest) → IsListed h told top path e t.node
turn_listed whole d e es done rest st tree t =
    let there : node_in e.name (items (shown whole d)) ≡ Some t.node = ap (node_in e.name) t.whole ∙ node_there e.name t.node done (items t.after) t.behind in record {
      stands = node_below e.name t.node st (node_shown whole e.name t.node d tree there);
      kind = t.kind;
      name = t.name;
    }

-- what is asked of what stands there
pub next_asks : {h : Type 0} {told : Option Told} {top : Name} {path : List Name} {Q : Type 0} (whole : Bool) (d : Dir) (e : Entry) (es left : List Entry)
    → Stands h told top path d → is_tree d ≡ true → Split (shown whole d) left → left ≡ e ∷ es → ((x : TreeNode) → IsListed h told top path e x → node_is_tree x ≡ true → Q) → Q
next_asks whole d e es left st tree p is f =
    let t = turn (shown whole d) e es left p is (tree_shown whole d tree) in
    f t.node (turn_listed whole d e es p.done p.rest st tree t) t.node_tree

-- the entries left at a place, and at the end
pub left_at : (xs : List Entry) (i : ℕ) (x : Entry) → i < length xs → x ≡ get_or xs i x → drop i xs ≡ x ∷ drop (i + 1) xs
left_at xs i x h e = drop_more xs i x h ∙ ap (λ y. y ∷ drop (i + 1) xs) (sym e)

pub left_none : (xs : List Entry) (i : ℕ) → length xs ≤ i → drop i xs ≡ []
left_none xs i h = drop_of_length-le xs h

-- what counts of some entries and others
pub leaves_split : (done rest : List Item) → leaves_met (dir (done ++ rest)) ≡ leaves_met (dir done) ++ leaves_met (dir rest)
leaves_split [] rest = refl
leaves_split (i ∷ done) rest =
    leaves_entry i.0 i.1 (dir (done ++ rest)) ∙ ap (λ l. leaf_met i.1 ++ l) (leaves_split done rest)
    ∙ sym (append_assoc (leaf_met i.1) (leaves_met (dir done)) (leaves_met (dir rest))) ∙ ap (λ l. l ++ leaves_met (dir rest)) (sym (leaves_entry i.0 i.1 (dir done)))

pub folders_split : (depth : ℕ) (done rest : List Item) → folders_met (depth + 1) (dir (done ++ rest)) ≡ folders_met (depth + 1) (dir done) ++ folders_met (depth + 1) (dir rest)
folders_split depth [] rest = refl
folders_split depth (i ∷ done) rest =
    folders_entry depth i.0 i.1 (dir (done ++ rest)) ∙ ap (λ l. inner_met depth i.1 ++ l) (folders_split depth done rest)
    ∙ sym (append_assoc (inner_met depth i.1) (folders_met (depth + 1) (dir done)) (folders_met (depth + 1) (dir rest))) ∙ ap (λ l. l ++ folders_met (depth + 1) (dir rest)) (sym (folders_entry depth i.0 i.1 (dir done)))

pub leaves_more : (done : List Item) (n : Name) (x : TreeNode) → leaves_met (dir (done ++ (n, x) ∷ [])) ≡ leaves_met (dir done) ++ leaf_met x
leaves_more done n x = leaves_split done ((n, x) ∷ []) ∙ ap (λ l. leaves_met (dir done) ++ l) (leaves_entry n x Nothing ∙ append-nil (leaf_met x))

pub folders_more : (depth : ℕ) (done : List Item) (n : Name) (x : TreeNode) → folders_met (depth + 1) (dir (done ++ (n, x) ∷ [])) ≡ folders_met (depth + 1) (dir done) ++ inner_met depth x
folders_more depth done n x = folders_split depth done ((n, x) ∷ []) ∙ ap (λ l. folders_met (depth + 1) (dir done) ++ l) (folders_entry depth n x Nothing ∙ append-nil (inner_met depth x))

-- what stops a walk after some entries stops the whole walk
stops_whole : {X Y : Type 0} (x : X) (y : Y) (all ms ns more : List Met) (n0 b0 n b n' b' n2 b2 : ℕ) (why : Stop) → all ≡ ms ++ (ns ++ more) → Passes n0 b0 ms n b → Walks x ns n b (Err why) n' b' → Walks y all n0 b0 (Err why) n2 b2
stops_whole x y all ms ns more n0 b0 n b n' b' n2 b2 stop.Missing is p w = w
stops_whole x y all ms ns more n0 b0 n b n' b' n2 b2 (stop.TooLarge what) is p w = subst (λ l. Stops n0 b0 l what) (sym is) (stops_then n0 b0 n b ms (ns ++ more) what p (stops_early n b ns more what w))
stops_whole x y all ms ns more n0 b0 n b n' b' n2 b2 (stop.Fault f) is p w = tt

pub stops_in : {X Y : Type 0} (x : X) (y : Y) (all ms ns more : List Met) (n0 b0 n b n' b' n2 b2 : ℕ) (result : Result Y Stop) (passed why : Stop) → result ≡ Err passed → passed ≡ why
    → all ≡ ms ++ (ns ++ more) → Passes n0 b0 ms n b → Walks x ns n b (Err why) n' b' → Walks y all n0 b0 result n2 b2
stops_in x y all ms ns more n0 b0 n b n' b' n2 b2 result passed why was same is p w = subst (λ z. Walks y all n0 b0 z n2 b2) (sym (was ∙ ap Err same)) (stops_whole x y all ms ns more n0 b0 n b n' b' n2 b2 why is p w)

-- The files and links of a folder, read into this tree up to those left.
pub record ReadTo (s : Dir) (left : List Entry) (tree : Dir) (n0 b0 n b : ℕ) : Type 0 where
  pub at_ : Split s left
  pub tree_is : tree ≡ dir (bared at_.done)
  pub walked : Passes n0 b0 (leaves_met (dir at_.done)) n b

pub read_start : (s : Dir) (left : List Entry) (tree : Dir) (n b : ℕ) → left ≡ entries_of s → tree ≡ Nothing → ReadTo s left tree n b n b
read_start s left tree n b h e = record { at_ = record { done = []; rest = s; split = refl; is = h }; tree_is = e; walked = passes_none n b }

read_free : (s : Dir) (left : List Entry) (tree : Dir) (n0 b0 n b : ℕ) (r : ReadTo s left tree n0 b0 n b) (e : Entry) → IsBehind e.name r.at_.done → node_in e.name (items tree) ≡ None
read_free s left tree n0 b0 n b r e h =
    ap (λ (z : Dir). node_in e.name (items z)) r.tree_is ∙ ap (node_in e.name) (items_of_dir (bared r.at_.done)) ∙ free_behind e.name (bared r.at_.done) (behind_bared e.name r.at_.done h)

-- one entry more
pub read_more : {h : Type 0} {told : Option Told} {top : Name} {path : List Name} (whole : Bool) (d : Dir) (e : Entry) (es left : List Entry) (tree tree' : Dir) (n0 b0 n b n' b' : ℕ)
    → Stands h told top path d → is_tree d ≡ true → ReadTo (shown whole d) left tree n0 b0 n b → left ≡ e ∷ es
    → ((x : TreeNode) → IsListed h told top path e x → node_in e.name (items tree) ≡ None → Passes n b (leaf_met x) n' b')
    → ((x : TreeNode) → IsListed h told top path e x → node_in e.name (items tree) ≡ None → tree' ≡ dir (placed e.name (bare x) (items tree)))
    → ReadTo (shown whole d) es tree' n0 b0 n' b'
read_more whole d e es left tree tree' n0 b0 n b n' b' st good r is walks grown =
    let s = shown whole d in
    let done = r.at_.done in
    let t = turn s e es left r.at_ is (tree_shown whole d good) in
    let listed = turn_listed whole d e es done r.at_.rest st good t in
    let free = read_free s left tree n0 b0 n b r e t.behind in
    let placed_is : placed e.name (bare t.node) (items tree) ≡ bared (done ++ (e.name, t.node) ∷ []) =
    ap (λ (z : Dir). placed e.name (bare t.node) (items z)) r.tree_is ∙ ap (placed e.name (bare t.node)) (items_of_dir (bared done))
    ∙ placed_behind e.name (bare t.node) (bared done) (behind_bared e.name done t.behind) ∙ sym (bared_append done ((e.name, t.node) ∷ [])) in record {
      at_ = split_more s e es done r.at_.rest t;
      tree_is = grown t.node listed free ∙ ap dir placed_is;
      walked = subst (λ l. Passes n0 b0 l n' b') (sym (leaves_more done e.name t.node)) (passes_then n0 b0 n b n' b' (leaves_met (dir done)) (leaf_met t.node) r.walked (walks t.node listed free));
    }

-- what stops it
pub read_stops : {h : Type 0} {told : Option Told} {top : Name} {path : List Name} {X : Type 0} (x : X) (whole : Bool) (d : Dir) (e : Entry) (es left : List Entry) (tree : Dir) (n0 b0 n b n' b' n2 b2 : ℕ) (result : Result X Stop) (passed why : Stop) → result ≡ Err passed → passed ≡ why
    → Stands h told top path d → is_tree d ≡ true → ReadTo (shown whole d) left tree n0 b0 n b → left ≡ e ∷ es
    → ((x : TreeNode) → IsListed h told top path e x → node_in e.name (items tree) ≡ None → Walks (tt {0}) (leaf_met x) n b (Err why) n' b')
    → Walks x (leaves_met (shown whole d)) n0 b0 result n2 b2
read_stops x whole d e es left tree n0 b0 n b n' b' n2 b2 result passed why was same st good r is walks =
    let s = shown whole d in
    let done = r.at_.done in
    let t = turn s e es left r.at_ is (tree_shown whole d good) in
    let listed = turn_listed whole d e es done r.at_.rest st good t in
    let all : leaves_met s ≡ leaves_met (dir done) ++ (leaf_met t.node ++ leaves_met (dir (items t.after))) =
    ap leaves_met (sym (dir_items s) ∙ ap dir t.whole) ∙ leaves_split done ((e.name, t.node) ∷ items t.after) ∙ ap (λ l. leaves_met (dir done) ++ l) (leaves_entry e.name t.node (dir (items t.after))) in
    stops_in (tt {0}) x (leaves_met s) (leaves_met (dir done)) (leaf_met t.node) (leaves_met (dir (items t.after))) n0 b0 n b n' b' n2 b2 result passed why was same all r.walked (walks t.node listed (read_free s left tree n0 b0 n b r e t.behind))

pub read_end : (s : Dir) (left : List Entry) (tree : Dir) (n0 b0 n b : ℕ) → left ≡ [] → ReadTo s left tree n0 b0 n b → (tree ≡ emptied s) × Passes n0 b0 (leaves_met s) n b
read_end s left tree n0 b0 n b h r =
    let all = (split_end s left r.at_ h).0 in (
      r.tree_is ∙ ap (λ (l : List Item). dir (bared l)) all ∙ sym (emptied_bared s),
      subst (λ l. Passes n0 b0 l n b) (ap (λ (l : List Item). leaves_met (dir l)) all ∙ ap leaves_met (dir_items s)) r.walked,
    )

-- The subfolders of a folder, read into this tree up to those left.
pub record FilledTo (depth : ℕ) (s : Dir) (left : List Entry) (tree : Dir) (n0 b0 n b : ℕ) : Type 0 where
  pub at_ : Split s left
  pub tree_is : tree ≡ dir (at_.done ++ bared (items at_.rest))
  pub walked : Passes n0 b0 (leaves_met s ++ folders_met (depth + 1) (dir at_.done)) n b

pub filled_start : (depth : ℕ) (s : Dir) (left : List Entry) (tree : Dir) (n0 b0 n b : ℕ) → left ≡ entries_of s → tree ≡ emptied s → Passes n0 b0 (leaves_met s) n b → FilledTo depth s left tree n0 b0 n b
filled_start depth s left tree n0 b0 n b h e p = record {
  at_ = record { done = []; rest = s; split = refl; is = h };
  tree_is = e ∙ emptied_bared s;
  walked = subst (λ l. Passes n0 b0 l n b) (sym (append-nil (leaves_met s))) p;
}

-- an empty folder stands there, or a file or link
filled_items : (depth : ℕ) (s : Dir) (left : List Entry) (tree : Dir) (n0 b0 n b : ℕ) (r : FilledTo depth s left tree n0 b0 n b) (e : Entry) (es : List Entry) (t : Turn s e es r.at_.done r.at_.rest)
    → items tree ≡ r.at_.done ++ (e.name, bare t.node) ∷ bared (items t.after)
filled_items depth s left tree n0 b0 n b r e es t = ap items r.tree_is ∙ items_of_dir (r.at_.done ++ bared (items r.at_.rest)) ∙ ap (λ (l : List Item). r.at_.done ++ bared l) t.is

pub filled_more : {h : Type 0} {told : Option Told} {top : Name} {path : List Name} (depth : ℕ) (whole : Bool) (d : Dir) (e : Entry) (es left : List Entry) (tree tree' : Dir) (n0 b0 n b n' b' : ℕ)
    → Stands h told top path d → is_tree d ≡ true → FilledTo depth (shown whole d) left tree n0 b0 n b → left ≡ e ∷ es
    → ((x : TreeNode) → IsListed h told top path e x → node_is_tree x ≡ true → node_in e.name (items tree) ≡ Some (bare x) → Passes n b (inner_met depth x) n' b')
    → ((x : TreeNode) → IsListed h told top path e x → node_is_tree x ≡ true → node_in e.name (items tree) ≡ Some (bare x) → tree' ≡ dir (replaced e.name x (items tree)))
    → FilledTo depth (shown whole d) es tree' n0 b0 n' b'
filled_more depth whole d e es left tree tree' n0 b0 n b n' b' st good r is walks grown =
    let s = shown whole d in
    let done = r.at_.done in
    let t = turn s e es left r.at_ is (tree_shown whole d good) in
    let listed = turn_listed whole d e es done r.at_.rest st good t in
    let here = filled_items depth s left tree n0 b0 n b r e es t in
    let there : node_in e.name (items tree) ≡ Some (bare t.node) = ap (node_in e.name) here ∙ node_there e.name (bare t.node) done (bared (items t.after)) t.behind in
    let after : replaced e.name t.node (items tree) ≡ (done ++ (e.name, t.node) ∷ []) ++ bared (items t.after) =
    ap (replaced e.name t.node) here ∙ replaced_there e.name (bare t.node) t.node done (bared (items t.after)) t.behind ∙ sym (append_assoc done ((e.name, t.node) ∷ []) (bared (items t.after))) in record {
      at_ = split_more s e es done r.at_.rest t;
      tree_is = grown t.node listed t.node_tree there ∙ ap dir after;
      walked = subst (λ l. Passes n0 b0 l n' b')
          (append_assoc (leaves_met s) (folders_met (depth + 1) (dir done)) (inner_met depth t.node) ∙ ap (λ l. leaves_met s ++ l) (sym (folders_more depth done e.name t.node)))
          (passes_then n0 b0 n b n' b' (leaves_met s ++ folders_met (depth + 1) (dir done)) (inner_met depth t.node) r.walked (walks t.node listed t.node_tree there));
    }

pub filled_stops : {h : Type 0} {told : Option Told} {top : Name} {path : List Name} {X : Type 0} (x : X) (depth : ℕ) (whole : Bool) (d : Dir) (e : Entry) (es left : List Entry) (tree : Dir) (n0 b0 n b n' b' n2 b2 : ℕ) (result : Result X Stop) (passed why : Stop) → result ≡ Err passed → passed ≡ why
    → Stands h told top path d → is_tree d ≡ true → FilledTo depth (shown whole d) left tree n0 b0 n b → left ≡ e ∷ es
    → ((x : TreeNode) → IsListed h told top path e x → node_is_tree x ≡ true → node_in e.name (items tree) ≡ Some (bare x) → Walks (tt {0}) (inner_met depth x) n b (Err why) n' b')
    → Walks x (met depth (shown whole d)) n0 b0 result n2 b2
filled_stops x depth whole d e es left tree n0 b0 n b n' b' n2 b2 result passed why was same st good r is walks =
    let s = shown whole d in
    let done = r.at_.done in
    let t = turn s e es left r.at_ is (tree_shown whole d good) in
    let listed = turn_listed whole d e es done r.at_.rest st good t in
    let here = filled_items depth s left tree n0 b0 n b r e es t in
    let there : node_in e.name (items tree) ≡ Some (bare t.node) = ap (node_in e.name) here ∙ node_there e.name (bare t.node) done (bared (items t.after)) t.behind in
    let folders : folders_met (depth + 1) s ≡ folders_met (depth + 1) (dir done) ++ (inner_met depth t.node ++ folders_met (depth + 1) (dir (items t.after))) =
    ap (folders_met (depth + 1)) (sym (dir_items s) ∙ ap dir t.whole) ∙ folders_split depth done ((e.name, t.node) ∷ items t.after) ∙ ap (λ l. folders_met (depth + 1) (dir done) ++ l) (folders_entry depth e.name t.node (dir (items t.after))) in
    let rest = inner_met depth t.node ++ folders_met (depth + 1) (dir (items t.after)) in
    let all : met depth s ≡ (leaves_met s ++ folders_met (depth + 1) (dir done)) ++ rest = ap (λ l. leaves_met s ++ l) folders ∙ sym (append_assoc (leaves_met s) (folders_met (depth + 1) (dir done)) rest) in
    stops_in (tt {0}) x (met depth s) (leaves_met s ++ folders_met (depth + 1) (dir done)) (inner_met depth t.node) (folders_met (depth + 1) (dir (items t.after))) n0 b0 n b n' b' n2 b2 result passed why was same all r.walked (walks t.node listed t.node_tree there)

pub filled_end : (depth : ℕ) (s : Dir) (left : List Entry) (tree : Dir) (n0 b0 n b : ℕ) → left ≡ [] → FilledTo depth s left tree n0 b0 n b → (tree ≡ s) × Passes n0 b0 (met depth s) n b
filled_end depth s left tree n0 b0 n b h r =
    let both = split_end s left r.at_ h in (
      r.tree_is ∙ ap (λ (l : List Item). dir (r.at_.done ++ bared l)) both.1 ∙ ap dir (append-nil r.at_.done) ∙ ap dir both.0 ∙ dir_items s,
      subst (λ l. Passes n0 b0 l n b) (ap (λ (l : List Item). leaves_met s ++ folders_met (depth + 1) (dir l)) both.0 ∙ ap (λ (z : Dir). leaves_met s ++ folders_met (depth + 1) z) (dir_items s)) r.walked,
    )
