-- A folder's entries, written one by one.
use Rattle.std.proofs.Common.{◌≡◌, ℕ, ◌+◌, ◌-◌, ◌<◌, ◌≤◌, Bool, true, false, ℤ, length, if◌then◌else◌, List, [], ◌∷◌, ◌++◌, Option, Some, None, is_some, Result, Ok, Err, OnOk, refl, sym, ◌∙◌, ap, subst, append_assoc, arith}
use Rattle.std.specs.Option.{option_or}
use Rattle.std.proofs.lemmas.List.{append-nil}
use Rattle.zi_text.proofs.ListLaws.{option_or-none}
use Rattle.zi_digest.specs.Name.{name_of}
use Rattle.zi_digest.specs.declared.Algorithm.{Algorithm}
use Rattle.zi_digest.specs.declared.DigestName.{DigestName}
use Rattle.zi_tree.specs.Dir.{Dir, Nothing}
use Rattle.zi_tree.specs.declared.tree.TreeNode.{TreeNode}
use Rattle.zi_tree.specs.declared.tree.TreeNode.TheVariants.{File, Link, Folder}
use Rattle.zi_tree.specs.declared.change.TreeLimit.TheVariants as limit
use Rattle.zi_tree.specs.Order.{is_tree}
use Rattle.zi_tree.specs.Paths.{items, found}
use Rattle.zi_tree.specs.Views.{Item, dir, node_is_tree}
use Rattle.zi_tree.proofs.Replaced.{dir_items}
use Rattle.zi_manifest.specs.Sketch.{hash_of, hash_text, file_line, folder_line, joined, sketch, leaf_text, folder_text}
use Rattle.zi_manifest.specs.Manifest.{is_bad, leaf_bad, folder_bad}
use Rattle.zi_manifest.specs.Walk.{shown, bad_name, node_bad, node_text, inner_bad, inner_text}
use Rattle.zi_manifest.proofs.Walks.{bad_entry, text_entry, or_assoc, inner_bad_entry, inner_text_entry}
use Rattle.zi_shelf.specs.Names.{Name}
use Rattle.zi_shelf.specs.Told.{Told}
use Rattle.zi_shelf.specs.Shelved.{Top}
use Rattle.zi_shelf.specs.Reading.{kind_of, TargetAnswer}
use Rattle.zi_shelf.specs.declared.shelf.Entry.{Entry}
use Rattle.zi_shelf.specs.declared.shelf.EntryKind.{EntryKind}
use Rattle.zi_shelf.specs.declared.shelf.EntryKind.TheVariants as kind
use Rattle.zi_store.specs.Walking.{leaves_met, folders_met, met, Passes, Stops}
use Rattle.zi_store.specs.Standing.{Stands, StandsNode, IsListed}
use Rattle.zi_store.specs.Entries.{entries_of, is_folder_kind, leaf_met, inner_met, Walks}
use Rattle.zi_store.specs.Written.{Adds, HashesBytes}
use Rattle.zi_store.specs.declared.written.Written.{Written}
use Rattle.zi_store.specs.declared.stop.Stop.{Stop}
use Rattle.zi_store.specs.declared.stop.Stop.TheVariants as stop
use Rattle.zi_store.proofs.FrontLemmas.{tree_shown}
use Rattle.zi_store.proofs.StandingLemmas.{folder_there}
use Rattle.zi_store.proofs.WalkLemmas.{leaves_entry, folders_entry, passes_none, passes_then, stops_nodes, stops_size}
use Rattle.zi_store.proofs.LoopLemmas.{Split, turn, turn_listed, split_more, split_end, leaves_split, leaves_more, folders_split, folders_more, stops_in}

-- nothing is added, and one after the other
pub adds_nothing : (w : Written) → Adds w w [] None
adds_nothing w = record { text = sym (append-nil w.text.items); first = sym (option_or-none w.bad) }

pub adds_then : (old mid new : Written) (l m : List ℕ) (b c : Option (List ℕ)) → Adds old mid l b → Adds mid new m c → Adds old new (l ++ m) (option_or b c)
adds_then old mid new l m b c p q = record {
  text = q.text ∙ ap (λ t. t ++ m) p.text ∙ append_assoc old.text.items l m;
  first = q.first ∙ ap (λ o. option_or o c) p.first ∙ or_assoc old.bad b c;
}

-- the lines of some entries and of others
pub text_split : (a : Algorithm) (done rest : List Item) → leaf_text (sketch a (dir (done ++ rest))) ≡ leaf_text (sketch a (dir done)) ++ leaf_text (sketch a (dir rest))
text_split a [] rest = refl
text_split a (i ∷ done) rest =
    text_entry a false i.0 i.1 (dir (done ++ rest)) ∙ ap (λ l. node_text a false i.0 i.1 ++ l) (text_split a done rest)
    ∙ sym (append_assoc (node_text a false i.0 i.1) (leaf_text (sketch a (dir done))) (leaf_text (sketch a (dir rest)))) ∙ ap (λ l. l ++ leaf_text (sketch a (dir rest))) (sym (text_entry a false i.0 i.1 (dir done)))

pub bad_split : (p : List ℕ) (done rest : List Item) → leaf_bad p (dir (done ++ rest)) ≡ option_or (leaf_bad p (dir done)) (leaf_bad p (dir rest))
bad_split p [] rest = refl
bad_split p (i ∷ done) rest =
    bad_entry false p i.0 i.1 (dir (done ++ rest)) ∙ ap (option_or (node_bad false p i.0 i.1)) (bad_split p done rest)
    ∙ sym (or_assoc (node_bad false p i.0 i.1) (leaf_bad p (dir done)) (leaf_bad p (dir rest))) ∙ ap (λ o. option_or o (leaf_bad p (dir rest))) (sym (bad_entry false p i.0 i.1 (dir done)))

text_more : (a : Algorithm) (done : List Item) (n : Name) (x : TreeNode) → leaf_text (sketch a (dir (done ++ (n, x) ∷ []))) ≡ leaf_text (sketch a (dir done)) ++ node_text a false n x
text_more a done n x = text_split a done ((n, x) ∷ []) ∙ ap (λ l. leaf_text (sketch a (dir done)) ++ l) (text_entry a false n x Nothing ∙ append-nil (node_text a false n x))

bad_more : (p : List ℕ) (done : List Item) (n : Name) (x : TreeNode) → leaf_bad p (dir (done ++ (n, x) ∷ [])) ≡ option_or (leaf_bad p (dir done)) (node_bad false p n x)
bad_more p done n x = bad_split p done ((n, x) ∷ []) ∙ ap (option_or (leaf_bad p (dir done))) (bad_entry false p n x Nothing ∙ option_or-none (node_bad false p n x))

pub inner_split : (a : Algorithm) (p : List ℕ) (done rest : List Item) → folder_text p (sketch a (dir (done ++ rest))) ≡ folder_text p (sketch a (dir done)) ++ folder_text p (sketch a (dir rest))
inner_split a p [] rest = refl
inner_split a p (i ∷ done) rest =
    inner_text_entry a p i.0 i.1 (dir (done ++ rest)) ∙ ap (λ l. inner_text a p i.0 i.1 ++ l) (inner_split a p done rest)
    ∙ sym (append_assoc (inner_text a p i.0 i.1) (folder_text p (sketch a (dir done))) (folder_text p (sketch a (dir rest)))) ∙ ap (λ l. l ++ folder_text p (sketch a (dir rest))) (sym (inner_text_entry a p i.0 i.1 (dir done)))

pub inner_bad_split : (p : List ℕ) (done rest : List Item) → folder_bad p (dir (done ++ rest)) ≡ option_or (folder_bad p (dir done)) (folder_bad p (dir rest))
inner_bad_split p [] rest = refl
inner_bad_split p (i ∷ done) rest =
    inner_bad_entry p i.0 i.1 (dir (done ++ rest)) ∙ ap (option_or (inner_bad p i.0 i.1)) (inner_bad_split p done rest)
    ∙ sym (or_assoc (inner_bad p i.0 i.1) (folder_bad p (dir done)) (folder_bad p (dir rest))) ∙ ap (λ o. option_or o (folder_bad p (dir rest))) (sym (inner_bad_entry p i.0 i.1 (dir done)))

inner_more : (a : Algorithm) (p : List ℕ) (done : List Item) (n : Name) (x : TreeNode) → folder_text p (sketch a (dir (done ++ (n, x) ∷ []))) ≡ folder_text p (sketch a (dir done)) ++ inner_text a p n x
inner_more a p done n x = inner_split a p done ((n, x) ∷ []) ∙ ap (λ l. folder_text p (sketch a (dir done)) ++ l) (inner_text_entry a p n x Nothing ∙ append-nil (inner_text a p n x))

inner_bad_more : (p : List ℕ) (done : List Item) (n : Name) (x : TreeNode) → folder_bad p (dir (done ++ (n, x) ∷ [])) ≡ option_or (folder_bad p (dir done)) (inner_bad p n x)
inner_bad_more p done n x = inner_bad_split p done ((n, x) ∷ []) ∙ ap (option_or (folder_bad p (dir done))) (inner_bad_entry p n x Nothing ∙ option_or-none (inner_bad p n x))

-- The files and links of a folder, written up to those left.
pub record WrittenTo (a : Algorithm) (p : List ℕ) (s : Dir) (left : List Entry) (old new : Written) : Type 0 where
  pub at_ : Split s left
  pub adds : Adds old new (leaf_text (sketch a (dir at_.done))) (leaf_bad p (dir at_.done))
  pub walked : Passes old.counts.nodes old.counts.bytes (leaves_met (dir at_.done)) new.counts.nodes new.counts.bytes

pub write_start : (a : Algorithm) (p : List ℕ) (s : Dir) (left : List Entry) (w : Written) → left ≡ entries_of s → WrittenTo a p s left w w
write_start a p s left w h = record { at_ = record { done = []; rest = s; split = refl; is = h }; adds = adds_nothing w; walked = passes_none w.counts.nodes w.counts.bytes }

pub write_more : {h : Type 0} {told : Option Told} {top : Name} {path : List Name} (a : Algorithm) (p : List ℕ) (whole : Bool) (d : Dir) (e : Entry) (es left : List Entry) (old mid new : Written)
    → Stands h told top path d → is_tree d ≡ true → WrittenTo a p (shown whole d) left old mid → left ≡ e ∷ es
    → ((x : TreeNode) → IsListed h told top path e x → Passes mid.counts.nodes mid.counts.bytes (leaf_met x) new.counts.nodes new.counts.bytes)
    → ((x : TreeNode) → IsListed h told top path e x → Adds mid new (node_text a false e.name x) (node_bad false p e.name x))
    → WrittenTo a p (shown whole d) es old new
write_more a p whole d e es left old mid new st good r is walks adds =
    let s = shown whole d in
    let done = r.at_.done in
    let t = turn s e es left r.at_ is (tree_shown whole d good) in
    let listed = turn_listed whole d e es done r.at_.rest st good t in
    let both = adds_then old mid new (leaf_text (sketch a (dir done))) (node_text a false e.name t.node) (leaf_bad p (dir done)) (node_bad false p e.name t.node) r.adds (adds t.node listed) in record {
      at_ = split_more s e es done r.at_.rest t;
      adds = subst (λ o. Adds old new (leaf_text (sketch a (dir (done ++ (e.name, t.node) ∷ [])))) o) (sym (bad_more p done e.name t.node)) (subst (λ l. Adds old new l (option_or (leaf_bad p (dir done)) (node_bad false p e.name t.node))) (sym (text_more a done e.name t.node)) both);
      walked = subst (λ l. Passes old.counts.nodes old.counts.bytes l new.counts.nodes new.counts.bytes) (sym (leaves_more done e.name t.node))
          (passes_then old.counts.nodes old.counts.bytes mid.counts.nodes mid.counts.bytes new.counts.nodes new.counts.bytes (leaves_met (dir done)) (leaf_met t.node) r.walked (walks t.node listed));
    }

pub write_stops : {h : Type 0} {told : Option Told} {top : Name} {path : List Name} {X : Type 0} (y : X) (a : Algorithm) (p : List ℕ) (whole : Bool) (d : Dir) (e : Entry) (es left : List Entry) (old mid new : Written) (n2 b2 : ℕ) (result : Result X Stop) (passed why : Stop) → result ≡ Err passed → passed ≡ why
    → Stands h told top path d → is_tree d ≡ true → WrittenTo a p (shown whole d) left old mid → left ≡ e ∷ es
    → ((x : TreeNode) → IsListed h told top path e x → Walks (tt {0}) (leaf_met x) mid.counts.nodes mid.counts.bytes (Err why) new.counts.nodes new.counts.bytes)
    → Walks y (leaves_met (shown whole d)) old.counts.nodes old.counts.bytes result n2 b2
write_stops y a p whole d e es left old mid new n2 b2 result passed why was same st good r is walks =
    let s = shown whole d in
    let done = r.at_.done in
    let t = turn s e es left r.at_ is (tree_shown whole d good) in
    let listed = turn_listed whole d e es done r.at_.rest st good t in
    let all : leaves_met s ≡ leaves_met (dir done) ++ (leaf_met t.node ++ leaves_met (dir (items t.after))) =
    ap leaves_met (sym (dir_items s) ∙ ap dir t.whole) ∙ leaves_split done ((e.name, t.node) ∷ items t.after) ∙ ap (λ l. leaves_met (dir done) ++ l) (leaves_entry e.name t.node (dir (items t.after))) in
    stops_in (tt {0}) y (leaves_met s) (leaves_met (dir done)) (leaf_met t.node) (leaves_met (dir (items t.after))) old.counts.nodes old.counts.bytes mid.counts.nodes mid.counts.bytes new.counts.nodes new.counts.bytes n2 b2 result passed why was same all r.walked (walks t.node listed)

pub write_end : (a : Algorithm) (p : List ℕ) (s : Dir) (left : List Entry) (old new : Written) → left ≡ [] → WrittenTo a p s left old new
    → Adds old new (leaf_text (sketch a s)) (leaf_bad p s) × Passes old.counts.nodes old.counts.bytes (leaves_met s) new.counts.nodes new.counts.bytes
write_end a p s left old new h r =
    let all : dir r.at_.done ≡ s = ap dir (split_end s left r.at_ h).0 ∙ dir_items s in (
      subst (λ (z : Dir). Adds old new (leaf_text (sketch a z)) (leaf_bad p z)) all r.adds,
      subst (λ (z : Dir). Passes old.counts.nodes old.counts.bytes (leaves_met z) new.counts.nodes new.counts.bytes) all r.walked,
    )

-- The subfolders of a folder, written up to those left, behind its files and links.
pub record FoldersTo (a : Algorithm) (p : List ℕ) (depth : ℕ) (s : Dir) (left : List Entry) (old new : Written) : Type 0 where
  pub at_ : Split s left
  pub adds : Adds old new (leaf_text (sketch a s) ++ folder_text p (sketch a (dir at_.done))) (option_or (leaf_bad p s) (folder_bad p (dir at_.done)))
  pub walked : Passes old.counts.nodes old.counts.bytes (leaves_met s ++ folders_met (depth + 1) (dir at_.done)) new.counts.nodes new.counts.bytes

pub folders_start : (a : Algorithm) (p : List ℕ) (depth : ℕ) (s : Dir) (left : List Entry) (old new : Written) → left ≡ entries_of s → Adds old new (leaf_text (sketch a s)) (leaf_bad p s)
    → Passes old.counts.nodes old.counts.bytes (leaves_met s) new.counts.nodes new.counts.bytes → FoldersTo a p depth s left old new
folders_start a p depth s left old new h adds walked = record {
  at_ = record { done = []; rest = s; split = refl; is = h };
  adds = record { text = adds.text ∙ ap (λ l. old.text.items ++ l) (sym (append-nil (leaf_text (sketch a s)))); first = adds.first ∙ ap (option_or old.bad) (sym (option_or-none (leaf_bad p s))) };
  walked = subst (λ l. Passes old.counts.nodes old.counts.bytes l new.counts.nodes new.counts.bytes) (sym (append-nil (leaves_met s))) walked;
}

pub folders_next : {h : Type 0} {told : Option Told} {top : Name} {path : List Name} (a : Algorithm) (p : List ℕ) (depth : ℕ) (whole : Bool) (d : Dir) (e : Entry) (es left : List Entry) (old mid new : Written)
    → Stands h told top path d → is_tree d ≡ true → FoldersTo a p depth (shown whole d) left old mid → left ≡ e ∷ es
    → ((x : TreeNode) → IsListed h told top path e x → node_is_tree x ≡ true → Passes mid.counts.nodes mid.counts.bytes (inner_met depth x) new.counts.nodes new.counts.bytes)
    → ((x : TreeNode) → IsListed h told top path e x → node_is_tree x ≡ true → Adds mid new (inner_text a p e.name x) (inner_bad p e.name x))
    → FoldersTo a p depth (shown whole d) es old new
folders_next a p depth whole d e es left old mid new st good r is walks adds =
    let s = shown whole d in
    let done = r.at_.done in
    let t = turn s e es left r.at_ is (tree_shown whole d good) in
    let listed = turn_listed whole d e es done r.at_.rest st good t in
    let lines = leaf_text (sketch a s) in
    let bad = leaf_bad p s in
    let both = adds_then old mid new (lines ++ folder_text p (sketch a (dir done))) (inner_text a p e.name t.node) (option_or bad (folder_bad p (dir done))) (inner_bad p e.name t.node) r.adds (adds t.node listed t.node_tree) in
    let text_is : (lines ++ folder_text p (sketch a (dir done))) ++ inner_text a p e.name t.node ≡ lines ++ folder_text p (sketch a (dir (done ++ (e.name, t.node) ∷ []))) =
    append_assoc lines (folder_text p (sketch a (dir done))) (inner_text a p e.name t.node) ∙ ap (λ l. lines ++ l) (sym (inner_more a p done e.name t.node)) in
    let bad_is : option_or (option_or bad (folder_bad p (dir done))) (inner_bad p e.name t.node) ≡ option_or bad (folder_bad p (dir (done ++ (e.name, t.node) ∷ []))) =
    or_assoc bad (folder_bad p (dir done)) (inner_bad p e.name t.node) ∙ ap (option_or bad) (sym (inner_bad_more p done e.name t.node)) in record {
      at_ = split_more s e es done r.at_.rest t;
      adds = record { text = both.text ∙ ap (λ l. old.text.items ++ l) text_is; first = both.first ∙ ap (option_or old.bad) bad_is };
      walked = subst (λ l. Passes old.counts.nodes old.counts.bytes l new.counts.nodes new.counts.bytes)
          (append_assoc (leaves_met s) (folders_met (depth + 1) (dir done)) (inner_met depth t.node) ∙ ap (λ l. leaves_met s ++ l) (sym (folders_more depth done e.name t.node)))
          (passes_then old.counts.nodes old.counts.bytes mid.counts.nodes mid.counts.bytes new.counts.nodes new.counts.bytes (leaves_met s ++ folders_met (depth + 1) (dir done)) (inner_met depth t.node) r.walked (walks t.node listed t.node_tree));
    }

pub folders_stop : {h : Type 0} {told : Option Told} {top : Name} {path : List Name} {X : Type 0} (y : X) (a : Algorithm) (p : List ℕ) (depth : ℕ) (whole : Bool) (d : Dir) (e : Entry) (es left : List Entry) (old mid new : Written) (n2 b2 : ℕ) (result : Result X Stop) (passed why : Stop) → result ≡ Err passed → passed ≡ why
    → Stands h told top path d → is_tree d ≡ true → FoldersTo a p depth (shown whole d) left old mid → left ≡ e ∷ es
    → ((x : TreeNode) → IsListed h told top path e x → node_is_tree x ≡ true → Walks (tt {0}) (inner_met depth x) mid.counts.nodes mid.counts.bytes (Err why) new.counts.nodes new.counts.bytes)
    → Walks y (met depth (shown whole d)) old.counts.nodes old.counts.bytes result n2 b2
folders_stop y a p depth whole d e es left old mid new n2 b2 result passed why was same st good r is walks =
    let s = shown whole d in
    let done = r.at_.done in
    let t = turn s e es left r.at_ is (tree_shown whole d good) in
    let listed = turn_listed whole d e es done r.at_.rest st good t in
    let folders : folders_met (depth + 1) s ≡ folders_met (depth + 1) (dir done) ++ (inner_met depth t.node ++ folders_met (depth + 1) (dir (items t.after))) =
    ap (folders_met (depth + 1)) (sym (dir_items s) ∙ ap dir t.whole) ∙ folders_split depth done ((e.name, t.node) ∷ items t.after) ∙ ap (λ l. folders_met (depth + 1) (dir done) ++ l) (folders_entry depth e.name t.node (dir (items t.after))) in
    let rest = inner_met depth t.node ++ folders_met (depth + 1) (dir (items t.after)) in
    let all : met depth s ≡ (leaves_met s ++ folders_met (depth + 1) (dir done)) ++ rest = ap (λ l. leaves_met s ++ l) folders ∙ sym (append_assoc (leaves_met s) (folders_met (depth + 1) (dir done)) rest) in
    stops_in (tt {0}) y (met depth s) (leaves_met s ++ folders_met (depth + 1) (dir done)) (inner_met depth t.node) (folders_met (depth + 1) (dir (items t.after))) old.counts.nodes old.counts.bytes mid.counts.nodes mid.counts.bytes new.counts.nodes new.counts.bytes n2 b2 result passed why was same all r.walked (walks t.node listed t.node_tree)

pub folders_end : (a : Algorithm) (p : List ℕ) (depth : ℕ) (s : Dir) (left : List Entry) (old new : Written) → left ≡ [] → FoldersTo a p depth s left old new
    → Adds old new (leaf_text (sketch a s) ++ folder_text p (sketch a s)) (option_or (leaf_bad p s) (folder_bad p s)) × Passes old.counts.nodes old.counts.bytes (met depth s) new.counts.nodes new.counts.bytes
folders_end a p depth s left old new h r =
    let all : dir r.at_.done ≡ s = ap dir (split_end s left r.at_ h).0 ∙ dir_items s in (
      subst (λ (z : Dir). Adds old new (leaf_text (sketch a s) ++ folder_text p (sketch a z)) (option_or (leaf_bad p s) (folder_bad p z))) all r.adds,
      subst (λ (z : Dir). Passes old.counts.nodes old.counts.bytes (leaves_met s ++ folders_met (depth + 1) z) new.counts.nodes new.counts.bytes) all r.walked,
    )

-- a name that is noted: one was noted before, it isn't bad, or it is the first bad one
late : (o b : Option (List ℕ)) → is_some o ≡ true → o ≡ option_or o b
late None b h = absurd (cc h)
late (Some x) b h = refl

pub noted_late : (w : Written) (b : Option (List ℕ)) → is_some w.bad ≡ true → Adds w w [] b
noted_late w b h = record { text = sym (append-nil w.text.items); first = late w.bad b h }

pub noted_good : (w : Written) (p n : List ℕ) → is_bad n ≡ false → Adds w w [] (bad_name p n)
noted_good w p n h = record { text = sym (append-nil w.text.items); first = sym (ap (λ t. option_or w.bad (if t then Some (joined p n) else None)) h ∙ option_or-none w.bad) }

early : (o b : Option (List ℕ)) → is_some o ≡ false → b ≡ option_or o b
early None b h = refl
early (Some x) b h = absurd (cc h)

pub noted_bad : (old new : Written) (p n t : List ℕ) → is_some old.bad ≡ false → is_bad n ≡ true → t ≡ joined p n → new.text.items ≡ old.text.items → new.bad ≡ Some t → Adds old new [] (bad_name p n)
noted_bad old new p n t h k e text bad = record {
  text = text ∙ sym (append-nil old.text.items);
  first = bad ∙ ap Some e ∙ sym (ap (λ c. if c then Some (joined p n) else None) k) ∙ early old.bad (bad_name p n) h;
}

-- the lines of what was noted
pub adds_leaf : (old noted new : Written) (l : List ℕ) (b : Option (List ℕ)) → Adds old noted [] b → Adds noted new l None → Adds old new l b
adds_leaf old noted new l b p q = subst (λ o. Adds old new l o) (option_or-none b) (adds_then old noted new [] l b None p q)

-- a line alone
pub adds_line : (old new : Written) (line l : List ℕ) → new.text.items ≡ old.text.items ++ line → line ≡ l → new.bad ≡ old.bad → Adds old new l None
adds_line old new line l text is bad = record { text = text ∙ ap (λ t. old.text.items ++ t) is; first = bad ∙ sym (option_or-none old.bad) }

-- a line, and then others
pub line_then : (r : Result (Unit {0}) Stop) (old mid new : Written) (line l : List ℕ) (b : Option (List ℕ)) → Adds old mid line None → OnOk r (Adds mid new l b) → OnOk r (Adds old new (line ++ l) b)
line_then (Ok u) old mid new line l b p q = adds_then old mid new line l None b p q
line_then (Err e) old mid new line l b p q = tt

-- what isn't a folder adds nothing with the subfolders
pub inner_none : (a : Algorithm) (p n : List ℕ) (x : TreeNode) (k : EntryKind) (w : Written) → k ≡ kind_of x → is_folder_kind k ≡ false → Adds w w (inner_text a p n x) (inner_bad p n x)
inner_none a p n (File b e t) k w is other = adds_nothing w
inner_none a p n (Link t) k w is other = adds_nothing w
inner_none a p n (Folder i) k w is other = absurd (let same : is_folder_kind k ≡ true = ap is_folder_kind is in cc (same, other))

-- a folder adds nothing with the files and links
pub leaf_none : (a : Algorithm) (p n : List ℕ) (x : TreeNode) (k : EntryKind) (w : Written) → k ≡ kind_of x → k ≡ kind.Folder → Adds w w (node_text a false n x) (node_bad false p n x)
leaf_none a p n (File b e t) k w is other = absurd (cc (is, other))
leaf_none a p n (Link t) k w is other = absurd (cc (is, other))
leaf_none a p n (Folder i) k w is other = adds_nothing w

pub leaf_unmet : (x : TreeNode) (k : EntryKind) (n b : ℕ) → k ≡ kind_of x → k ≡ kind.Folder → Walks (tt {0}) (leaf_met x) n b (Ok tt) n b
leaf_unmet (File c e t) k n b is other = absurd (cc (is, other))
leaf_unmet (Link t) k n b is other = absurd (cc (is, other))
leaf_unmet (Folder i) k n b is other = (refl, passes_none n b)

-- a subfolder, whose name is noted before its own lines are written
folder_bads : (p n : List ℕ) (i : Dir) → option_or (bad_name p n) (option_or (leaf_bad (joined p n) i) (folder_bad (joined p n) i)) ≡ inner_bad p n (Folder i)
folder_bads p n i =
    let within = option_or (leaf_bad (joined p n) i) (folder_bad (joined p n) i) in
    elim (is_bad n) as (λ t. option_or (if t then Some (joined p n) else None) within ≡ (if t then Some (joined p n) else within)) [ true ↦ refl | false ↦ refl ]

pub adds_inner : (r : Result (Unit {0}) Stop) (a : Algorithm) (p n q : List ℕ) (i : Dir) (old noted new : Written) → q ≡ joined p n → Adds old noted [] (bad_name p n)
    → OnOk r (Adds noted new (folder_line q ++ (leaf_text (sketch a i) ++ folder_text q (sketch a i))) (option_or (leaf_bad q i) (folder_bad q i))) → OnOk r (Adds old new (inner_text a p n (Folder i)) (inner_bad p n (Folder i)))
adds_inner (Ok u) a p n q i old noted new e p1 p2 =
    let here : Adds noted new (folder_line (joined p n) ++ (leaf_text (sketch a i) ++ folder_text (joined p n) (sketch a i))) (option_or (leaf_bad (joined p n) i) (folder_bad (joined p n) i)) =
    subst (λ s. Adds noted new (folder_line s ++ (leaf_text (sketch a i) ++ folder_text s (sketch a i))) (option_or (leaf_bad s i) (folder_bad s i))) e p2 in
    let at_ : Adds noted new (inner_text a p n (Folder i)) (option_or (leaf_bad (joined p n) i) (folder_bad (joined p n) i)) =
    subst (λ l. Adds noted new l (option_or (leaf_bad (joined p n) i) (folder_bad (joined p n) i))) (sym (append_assoc (folder_line (joined p n)) (leaf_text (sketch a i)) (folder_text (joined p n) (sketch a i)))) here in
    subst (λ o. Adds old new (inner_text a p n (Folder i)) o) (folder_bads p n i)
    (adds_then old noted new [] (inner_text a p n (Folder i)) (bad_name p n) (option_or (leaf_bad (joined p n) i) (folder_bad (joined p n) i)) p1 at_)
adds_inner (Err s) a p n q i old noted new e p1 p2 = tt

pub inner_written : {h : Type 0} {told : Option Told} {top : Name} (r : Result (Unit {0}) Stop) (a : Algorithm) (p n q : List ℕ) (path place : List Name) (x : TreeNode) (k : EntryKind) (old noted new : Written)
    → k ≡ kind_of x → is_folder_kind k ≡ true → node_is_tree x ≡ true → place ≡ path ++ n ∷ [] → StandsNode h told top place x → q ≡ joined p n → Adds old noted [] (bad_name p n)
    → ((i : Dir) → Stands h told top place i → is_tree i ≡ true → OnOk r (Adds noted new (folder_line q ++ (leaf_text (sketch a i) ++ folder_text q (sketch a i))) (option_or (leaf_bad q i) (folder_bad q i))))
    → OnOk r (Adds old new (inner_text a p n x) (inner_bad p n x))
inner_written r a p n q path place (File b e t) k old noted new is folder tree here st named noting f = absurd (let same : is_folder_kind k ≡ false = ap is_folder_kind is in cc (same, folder))
inner_written r a p n q path place (Link t) k old noted new is folder tree here st named noting f = absurd (let same : is_folder_kind k ≡ false = ap is_folder_kind is in cc (same, folder))
inner_written {h = h} {told = told} {top = top} r a p n q path place (Folder i) k old noted new is folder tree here st named noting f =
    let there : Stands h told top place i = subst (λ s. Stands h told top s i) (sym here) (folder_there path n (subst (λ s. StandsNode h told top s (Folder i)) here st)) in
    adds_inner r a p n q i old noted new named noting (f i there tree)

-- what is said of a folder holds of what is told to be one, and the same of a link and of a file
pub as_folder : {h : Type 0} {told : Option Told} {top : Name} (Q : TreeNode → Type 0) (path place : List Name) (n : Name) (x : TreeNode) (k : EntryKind) → k ≡ kind_of x → is_folder_kind k ≡ true → node_is_tree x ≡ true → place ≡ path ++ n ∷ [] → StandsNode h told top place x
    → ((i : Dir) → Stands h told top place i → is_tree i ≡ true → Q (Folder i)) → Q x
as_folder Q path place n (File b e t) k is folder tree here st f = absurd (let same : is_folder_kind k ≡ false = ap is_folder_kind is in cc (same, folder))
as_folder Q path place n (Link t) k is folder tree here st f = absurd (let same : is_folder_kind k ≡ false = ap is_folder_kind is in cc (same, folder))
as_folder {h = h} {told = told} {top = top} Q path place n (Folder i) k is folder tree here st f =
    f i (subst (λ s. Stands h told top s i) (sym here) (folder_there path n (subst (λ s. StandsNode h told top s (Folder i)) here st))) tree

pub as_link : {h : Type 0} {told : Option Told} {top : Name} {path : List Name} (Q : TreeNode → Type 0) (x : TreeNode) (k : EntryKind) → k ≡ kind_of x → k ≡ kind.Link → StandsNode h told top path x
    → ((target : List ℕ) → StandsNode h told top path (Link target) → Q (Link target)) → Q x
as_link Q (File b e t) k is link st f = absurd (cc (is, link))
as_link Q (Link t) k is link st f = f t st
as_link Q (Folder i) k is link st f = absurd (cc (is, link))

pub as_told : {h : Type 0} {told : Option Told} {top : Name} {path : List Name} (Q : TreeNode → Type 0) (x : TreeNode) (k : EntryKind) (exec : Bool) (mtime stamp : ℤ) (size : ℕ) → stamp ≡ mtime → k ≡ kind_of x → k ≡ kind.File exec mtime size → StandsNode h told top path x
    → ((bytes : List ℕ) → StandsNode h told top path (File bytes exec stamp) → Q (File bytes exec stamp)) → Q x
as_told {h = h} {told = told} {top = top} {path = path} Q (File b e t) k exec mtime stamp size time is file st f =
    let same_exec : exec ≡ e = cc (is, file) in
    let told_time : mtime ≡ t = cc (is, file) in
    let same_time : stamp ≡ t = time ∙ told_time in
    let same : File b e t ≡ File b exec stamp = sym (ap (λ z. File b z stamp) same_exec ∙ ap (λ z. File b e z) same_time) in
    subst Q (sym same) (f b (subst (λ y. StandsNode h told top path y) same st))
as_told Q (Link t) k exec mtime stamp size time is file st f = absurd (cc (is, file))
as_told Q (Folder i) k exec mtime stamp size time is file st f = absurd (cc (is, file))

-- the text of a link that stands there
pub target_is : {h : Type 0} {told : Option Told} {top : Name} {path : List Name} (target t : List ℕ) (st : StandsNode h told top path (Link target)) → TargetAnswer top path (Ok t) st.state.shelf → t ≡ target
target_is {path = path} target t st (e, tops, there) =
    let one : st.entry ≡ e = let q = st.is_top in cc (q, tops) in
    let here : found path st.entry.tree ≡ Some (Link t) = subst (λ (y : Top Dir). found path y.tree ≡ Some (Link t)) (sym one) there in
    let q = st.is_there in cc (q, here)

-- no entry more may come
pub no_room : (n b size n' b' : ℕ) (r : Result (Unit {0}) Stop) (passed why : Stop) → r ≡ Err passed → passed ≡ why → ◌≡◌ {A = Result (Unit {0}) Stop} (Err why) (Err (stop.TooLarge limit.Nodes)) → 100000 ≤ n → Walks (tt {0}) (record { depth = 0; size = size } ∷ []) n b r n' b'
no_room n b size n' b' r passed why e f g many = subst (λ z. Walks (tt {0}) (record { depth = 0; size = size } ∷ []) n b z n' b') (sym (e ∙ ap Err f ∙ g)) (stops_nodes n b 0 size (omega arith) many)

-- a file has too many bytes
pub hash_stops : (a : Algorithm) (bytes : List ℕ) (n b n' b' : ℕ) (r : Result (Unit {0}) Stop) (passed why : Stop) → r ≡ Err passed → passed ≡ why → n < 100000 → b ≤ 268435456 → HashesBytes a bytes (268435456 - b) (Err why) → Walks (tt {0}) (record { depth = 0; size = length bytes } ∷ []) n b r n' b'
hash_stops a bytes n b n' b' r passed why e f few small hashes = subst (λ z. Walks (tt {0}) (record { depth = 0; size = length bytes } ∷ []) n b z n' b') (sym (e ∙ ap Err f)) (by_case why hashes)
  where
    by_case : (why : Stop) → HashesBytes a bytes (268435456 - b) (Err why) → Walks (tt {0}) (record { depth = 0; size = length bytes } ∷ []) n b (Err why) n' b'
    by_case stop.Missing x = absurd x
    by_case (stop.TooLarge what) (is, many) = subst (λ w. Stops n b (record { depth = 0; size = length bytes } ∷ []) w) (sym is) (stops_size n b 0 (length bytes) (omega arith) few (omega (arith, many, small)))
    by_case (stop.Fault fault) x = tt

-- the line of a file by its hash
pub file_node : (a : Algorithm) (n bytes : List ℕ) (exec : Bool) (mtime stamp : ℤ) (hash : DigestName) (size : ℕ) → stamp ≡ mtime → hash ≡ name_of a bytes → size ≡ length bytes → file_line (hash_text hash) exec stamp size n ≡ node_text a false n (File bytes exec mtime)
unfolding hash_of
file_node a n bytes exec mtime stamp hash size time is long =
    ap (λ (h : DigestName). file_line (hash_text h) exec stamp size n) is ∙ ap (λ k. file_line (hash_text (name_of a bytes)) exec stamp k n) long
    ∙ ap (λ (z : ℤ). file_line (hash_text (name_of a bytes)) exec z (length bytes) n) time
