-- What is written is of some tree, whatever the shelf is.
use Rattle.std.proofs.Common.{◌≡◌, ℕ, Bool, true, false, ◌||◌, bytes_eq, List, [], ◌∷◌, ◌++◌, length, if◌then◌else◌, Option, Some, None, Result, Ok, Err, OnOk, refl, sym, ◌∙◌, ap, subst}
use Rattle.std.specs.Option.{option_or}
use Rattle.std.proofs.lemmas.List.{append-nil}
use Rattle.zi_digest.specs.declared.Algorithm.{Algorithm}
use Rattle.zi_tree.specs.Dir.{Dir, Nothing, AFile, ALink, AFolder}
use Rattle.zi_tree.specs.declared.tree.TreeNode.{TreeNode}
use Rattle.zi_tree.specs.declared.tree.TreeNode.TheVariants.{Folder}
use Rattle.zi_tree.specs.Paths.{items}
use Rattle.zi_tree.specs.Views.{dir}
use Rattle.zi_tree.proofs.Replaced.{dir_items}
use Rattle.zi_shelf.specs.declared.shelf.ShelfFault.{ShelfFault}
use Rattle.zi_manifest.specs.Sketch.{hash_of, file_line, link_line, folder_line, joined, sketch, leaf_text, folder_text, text_of}
use Rattle.zi_manifest.specs.Manifest.{own_name, has_newline, is_bad, as_read, leaf_bad, folder_bad, first_bad, manifest, HasManifest}
use Rattle.zi_manifest.specs.Walk.{bad_name, node_bad, node_text, inner_bad, inner_text}
use Rattle.zi_manifest.proofs.Walks.{bad_entry, text_entry, inner_bad_entry, inner_text_entry}
use Rattle.zi_store.specs.ManifestAnswers.{Ends, IsOfSomeTree}
use Rattle.zi_store.specs.Written.{Adds, AddsLeaves, AddsFolders, AddsAll, AddsFolder, IsOfTree}
use Rattle.zi_store.specs.declared.written.Written.{Written}
use Rattle.zi_store.specs.declared.manifests.ManifestRead.{ManifestRead}
use Rattle.zi_store.specs.declared.manifests.ManifestRead.TheVariants as read
use Rattle.zi_store.specs.declared.stop.Stop.{Stop}
use Rattle.zi_store.proofs.WritingLemmas.{adds_nothing, adds_then, text_split, bad_split, inner_split, inner_bad_split, adds_inner, line_then}
use Rattle.zi_text.proofs.ListLaws.{first_none, option_or-none}

adds_as : (old new : Written) (l m : List ℕ) (b c : Option (List ℕ)) → l ≡ m → b ≡ c → Adds old new l b → Adds old new m c
adds_as old new l m b c lines bad adds = record { text = adds.text ∙ ap (λ t. old.text.items ++ t) lines; first = adds.first ∙ ap (option_or old.bad) bad }

-- nothing, and one after the other
pub leaves_none : (a : Algorithm) (p : List ℕ) (w : Written) → AddsLeaves a p w w
leaves_none a p w = record { tree = Nothing; adds = adds_nothing w }

pub folders_none : (a : Algorithm) (p : List ℕ) (w : Written) → AddsFolders a p w w
folders_none a p w = record { tree = Nothing; adds = adds_nothing w }

leaf_texts : (a : Algorithm) (l m : Dir) → leaf_text (sketch a l) ++ leaf_text (sketch a m) ≡ leaf_text (sketch a (dir (items l ++ items m)))
leaf_texts a l m =
    sym (text_split a (items l) (items m) ∙ ap (λ (z : Dir). leaf_text (sketch a z) ++ leaf_text (sketch a (dir (items m)))) (dir_items l) ∙ ap (λ (z : Dir). leaf_text (sketch a l) ++ leaf_text (sketch a z)) (dir_items m))

leaf_bads : (p : List ℕ) (l m : Dir) → option_or (leaf_bad p l) (leaf_bad p m) ≡ leaf_bad p (dir (items l ++ items m))
leaf_bads p l m =
    sym (bad_split p (items l) (items m) ∙ ap (λ (z : Dir). option_or (leaf_bad p z) (leaf_bad p (dir (items m)))) (dir_items l) ∙ ap (λ (z : Dir). option_or (leaf_bad p l) (leaf_bad p z)) (dir_items m))

pub leaves_then : (a : Algorithm) (p : List ℕ) (old mid new : Written) → AddsLeaves a p old mid → AddsLeaves a p mid new → AddsLeaves a p old new
leaves_then a p old mid new x y =
    let l = x.tree in
    let m = y.tree in record {
      tree = dir (items l ++ items m);
      adds = adds_as old new (leaf_text (sketch a l) ++ leaf_text (sketch a m)) (leaf_text (sketch a (dir (items l ++ items m)))) (option_or (leaf_bad p l) (leaf_bad p m)) (leaf_bad p (dir (items l ++ items m))) (leaf_texts a l m) (leaf_bads p l m)
          (adds_then old mid new (leaf_text (sketch a l)) (leaf_text (sketch a m)) (leaf_bad p l) (leaf_bad p m) x.adds y.adds);
    }

folder_texts : (a : Algorithm) (p : List ℕ) (l m : Dir) → folder_text p (sketch a l) ++ folder_text p (sketch a m) ≡ folder_text p (sketch a (dir (items l ++ items m)))
folder_texts a p l m =
    sym (inner_split a p (items l) (items m) ∙ ap (λ (z : Dir). folder_text p (sketch a z) ++ folder_text p (sketch a (dir (items m)))) (dir_items l) ∙ ap (λ (z : Dir). folder_text p (sketch a l) ++ folder_text p (sketch a z)) (dir_items m))

folder_bads : (p : List ℕ) (l m : Dir) → option_or (folder_bad p l) (folder_bad p m) ≡ folder_bad p (dir (items l ++ items m))
folder_bads p l m =
    sym (inner_bad_split p (items l) (items m) ∙ ap (λ (z : Dir). option_or (folder_bad p z) (folder_bad p (dir (items m)))) (dir_items l) ∙ ap (λ (z : Dir). option_or (folder_bad p l) (folder_bad p z)) (dir_items m))

folders_then : (a : Algorithm) (p : List ℕ) (old mid new : Written) → AddsFolders a p old mid → AddsFolders a p mid new → AddsFolders a p old new
folders_then a p old mid new x y =
    let l = x.tree in
    let m = y.tree in record {
      tree = dir (items l ++ items m);
      adds = adds_as old new (folder_text p (sketch a l) ++ folder_text p (sketch a m)) (folder_text p (sketch a (dir (items l ++ items m)))) (option_or (folder_bad p l) (folder_bad p m)) (folder_bad p (dir (items l ++ items m))) (folder_texts a p l m) (folder_bads p l m)
          (adds_then old mid new (folder_text p (sketch a l)) (folder_text p (sketch a m)) (folder_bad p l) (folder_bad p m) x.adds y.adds);
    }

-- one file or link
pub leaf_some : (a : Algorithm) (p n : List ℕ) (x : TreeNode) (old new : Written) → Adds old new (node_text a false n x) (node_bad false p n x) → AddsLeaves a p old new
leaf_some a p n x old new adds = record {
  tree = dir ((n, x) ∷ []);
  adds = adds_as old new (node_text a false n x) (leaf_text (sketch a (dir ((n, x) ∷ [])))) (node_bad false p n x) (leaf_bad p (dir ((n, x) ∷ [])))
      (sym (text_entry a false n x Nothing ∙ append-nil (node_text a false n x))) (sym (bad_entry false p n x Nothing ∙ option_or-none (node_bad false p n x))) adds;
}

-- a folder's own line, and all in it
pub folder_some : (r : Result (Unit {0}) Stop) (a : Algorithm) (p : List ℕ) (old mid new : Written) → Adds old mid (folder_line p) None → OnOk r (AddsAll a p mid new) → OnOk r (AddsFolder a p old new)
folder_some (Ok u) a p old mid new line all = record {
  tree = all.tree;
  adds = line_then (Ok u) old mid new (folder_line p) (leaf_text (sketch a all.tree) ++ folder_text p (sketch a all.tree)) (option_or (leaf_bad p all.tree) (folder_bad p all.tree)) line all.adds;
}
folder_some (Err e) a p old mid new line all = tt

inner_some : (a : Algorithm) (p n : List ℕ) (i : Dir) (old new : Written) → Adds old new (inner_text a p n (Folder i)) (inner_bad p n (Folder i)) → AddsFolders a p old new
inner_some a p n i old new adds = record {
  tree = dir ((n, Folder i) ∷ []);
  adds = adds_as old new (inner_text a p n (Folder i)) (folder_text p (sketch a (dir ((n, Folder i) ∷ [])))) (inner_bad p n (Folder i)) (folder_bad p (dir ((n, Folder i) ∷ [])))
      (sym (inner_text_entry a p n (Folder i) Nothing ∙ append-nil (inner_text a p n (Folder i)))) (sym (inner_bad_entry p n (Folder i) Nothing ∙ option_or-none (inner_bad p n (Folder i)))) adds;
}

pub named_some : (r : Result (Unit {0}) Stop) (a : Algorithm) (p n q : List ℕ) (old noted new : Written) → q ≡ joined p n → Adds old noted [] (bad_name p n) → OnOk r (AddsFolder a q noted new) → OnOk r (AddsFolders a p old new)
named_some (Ok u) a p n q old noted new named noting all = inner_some a p n all.tree old new (adds_inner (Ok u) a p n q all.tree old noted new named noting all.adds)
named_some (Err e) a p n q old noted new named noting all = tt

-- the folders of a tree alone, and the files and links of another before them
abbrev folders_of : Dir → Dir
folders_of Nothing = Nothing
folders_of (AFile n b e t rest) = folders_of rest
folders_of (ALink n t rest) = folders_of rest
folders_of (AFolder n inside rest) = AFolder n inside (folders_of rest)

abbrev before : Dir → Dir → Dir
before Nothing f = folders_of f
before (AFile n b e t rest) f = AFile n b e t (before rest f)
before (ALink n t rest) f = ALink n t (before rest f)
before (AFolder n inside rest) f = before rest f

only_text : (a : Algorithm) (f : Dir) → leaf_text (sketch a (folders_of f)) ≡ []
only_text a Nothing = refl
only_text a (AFile n b e t rest) = only_text a rest
only_text a (ALink n t rest) = only_text a rest
only_text a (AFolder n inside rest) = only_text a rest

only_bad : (p : List ℕ) (f : Dir) → leaf_bad p (folders_of f) ≡ None
only_bad p Nothing = refl
only_bad p (AFile n b e t rest) = only_bad p rest
only_bad p (ALink n t rest) = only_bad p rest
only_bad p (AFolder n inside rest) = only_bad p rest

only_folders : (a : Algorithm) (p : List ℕ) (f : Dir) → folder_text p (sketch a (folders_of f)) ≡ folder_text p (sketch a f)
only_folders a p Nothing = refl
only_folders a p (AFile n b e t rest) = only_folders a p rest
only_folders a p (ALink n t rest) = only_folders a p rest
only_folders a p (AFolder n inside rest) = ap (λ l. folder_line (joined p n) ++ leaf_text (sketch a inside) ++ folder_text (joined p n) (sketch a inside) ++ l) (only_folders a p rest)

only_bads : (p : List ℕ) (f : Dir) → folder_bad p (folders_of f) ≡ folder_bad p f
only_bads p Nothing = refl
only_bads p (AFile n b e t rest) = only_bads p rest
only_bads p (ALink n t rest) = only_bads p rest
only_bads p (AFolder n inside rest) = ap (λ o. if is_bad n then Some (joined p n) else option_or (leaf_bad (joined p n) inside) (option_or (folder_bad (joined p n) inside) o)) (only_bads p rest)

before_text : (a : Algorithm) (l f : Dir) → leaf_text (sketch a (before l f)) ≡ leaf_text (sketch a l)
before_text a Nothing f = only_text a f
before_text a (AFile n b e t rest) f = ap (λ m. file_line (hash_of a b) e t (length b) n ++ m) (before_text a rest f)
before_text a (ALink n t rest) f = ap (λ m. link_line (hash_of a t) (length t) n ++ m) (before_text a rest f)
before_text a (AFolder n inside rest) f = before_text a rest f

before_bad : (p : List ℕ) (l f : Dir) → leaf_bad p (before l f) ≡ leaf_bad p l
before_bad p Nothing f = only_bad p f
before_bad p (AFile n b e t rest) f = ap (λ o. if is_bad n then Some (joined p n) else o) (before_bad p rest f)
before_bad p (ALink n t rest) f = ap (λ o. if is_bad n then Some (joined p n) else o) (before_bad p rest f)
before_bad p (AFolder n inside rest) f = before_bad p rest f

before_folders : (a : Algorithm) (p : List ℕ) (l f : Dir) → folder_text p (sketch a (before l f)) ≡ folder_text p (sketch a f)
before_folders a p Nothing f = only_folders a p f
before_folders a p (AFile n b e t rest) f = before_folders a p rest f
before_folders a p (ALink n t rest) f = before_folders a p rest f
before_folders a p (AFolder n inside rest) f = before_folders a p rest f

before_bads : (p : List ℕ) (l f : Dir) → folder_bad p (before l f) ≡ folder_bad p f
before_bads p Nothing f = only_bads p f
before_bads p (AFile n b e t rest) f = before_bads p rest f
before_bads p (ALink n t rest) f = before_bads p rest f
before_bads p (AFolder n inside rest) f = before_bads p rest f

all_some : (a : Algorithm) (p : List ℕ) (old mid new : Written) → AddsLeaves a p old mid → AddsFolders a p mid new → AddsAll a p old new
all_some a p old mid new x y =
    let l = x.tree in
    let f = y.tree in
    let d = before l f in record {
      tree = d;
      adds = adds_as old new (leaf_text (sketch a l) ++ folder_text p (sketch a f)) (leaf_text (sketch a d) ++ folder_text p (sketch a d)) (option_or (leaf_bad p l) (folder_bad p f)) (option_or (leaf_bad p d) (folder_bad p d))
          (ap (λ t. t ++ folder_text p (sketch a f)) (sym (before_text a l f)) ∙ ap (λ t. leaf_text (sketch a d) ++ t) (sym (before_folders a p l f)))
          (ap (λ o. option_or o (folder_bad p f)) (sym (before_bad p l f)) ∙ ap (option_or (leaf_bad p d)) (sym (before_bads p l f)))
          (adds_then old mid new (leaf_text (sketch a l)) (folder_text p (sketch a f)) (leaf_bad p l) (folder_bad p f) x.adds y.adds);
    }

-- the files and links of a folder, and some of its subfolders
pub record AddsSoFar (a : Algorithm) (path : List ℕ) (old new : Written) : Type 0 where
  pub mid : Written
  pub leaves : AddsLeaves a path old mid
  pub folders : AddsFolders a path mid new

pub so_far_none : (a : Algorithm) (p : List ℕ) (old new : Written) → AddsLeaves a p old new → AddsSoFar a p old new
so_far_none a p old new leaves = record { mid = new; leaves = leaves; folders = folders_none a p new }

pub so_far_more : (a : Algorithm) (p : List ℕ) (old now new : Written) → AddsSoFar a p old now → AddsFolders a p now new → AddsSoFar a p old new
so_far_more a p old now new x more = record { mid = x.mid; leaves = x.leaves; folders = folders_then a p x.mid now new x.folders more }

pub so_far_all : (a : Algorithm) (p : List ℕ) (old new : Written) → AddsSoFar a p old new → AddsAll a p old new
so_far_all a p old new x = all_some a p old x.mid new x.leaves x.folders

-- what was written from nothing on
pub whole_some : (a : Algorithm) (p : List ℕ) (old new : Written) → p ≡ [] → old.text.items ≡ [] → old.bad ≡ None → AddsAll a p old new → IsOfTree a new
whole_some a p old new root text bad x =
    let d = x.tree in record {
      tree = d;
      text = x.adds.text ∙ ap (λ t. t ++ (leaf_text (sketch a d) ++ folder_text p (sketch a d))) text ∙ ap (λ q. leaf_text (sketch a d) ++ folder_text q (sketch a d)) root;
      bad = x.adds.first ∙ ap (λ o. option_or o (option_or (leaf_bad p d) (folder_bad p d))) bad ∙ ap (λ q. option_or (leaf_bad q d) (folder_bad q d)) root;
    }

-- without a bad name there is no file `.manifest`
good_one : (newline own : Bool) (path : List ℕ) (o : Option (List ℕ)) → (if newline || own then Some path else o) ≡ None → (own ≡ false) × (o ≡ None)
good_one true own path o h = absurd (cc h)
good_one false true path o h = absurd (cc h)
good_one false false path o h = (refl, h)

good_read : (p : List ℕ) (d : Dir) → leaf_bad p d ≡ None → as_read d ≡ d
good_read p Nothing h = refl
good_read p (AFile n b e t rest) h =
    let good = good_one (has_newline n) (bytes_eq n own_name) (joined p n) (leaf_bad p rest) h in
    ap (λ c. if c then as_read rest else AFile n b e t (as_read rest)) good.0 ∙ ap (λ (z : Dir). AFile n b e t z) (good_read p rest good.1)
good_read p (ALink n t rest) h = ap (λ (z : Dir). ALink n t z) (good_read p rest (good_one (has_newline n) (bytes_eq n own_name) (joined p n) (leaf_bad p rest) h).1)
good_read p (AFolder n inside rest) h = ap (λ (z : Dir). AFolder n inside z) (good_read p rest h)

-- a tree with links in the place of the files in its top folder has the same bad names, and is read whole
abbrev linked : Dir → Dir
linked Nothing = Nothing
linked (AFile n b e t rest) = ALink n [] (linked rest)
linked (ALink n t rest) = ALink n t (linked rest)
linked (AFolder n inside rest) = AFolder n inside (linked rest)

linked_read : (d : Dir) → as_read (linked d) ≡ linked d
linked_read Nothing = refl
linked_read (AFile n b e t rest) = ap (λ (z : Dir). ALink n [] z) (linked_read rest)
linked_read (ALink n t rest) = ap (λ (z : Dir). ALink n t z) (linked_read rest)
linked_read (AFolder n inside rest) = ap (λ (z : Dir). AFolder n inside z) (linked_read rest)

linked_bad : (p : List ℕ) (d : Dir) → leaf_bad p (linked d) ≡ leaf_bad p d
linked_bad p Nothing = refl
linked_bad p (AFile n b e t rest) = ap (λ o. if is_bad n then Some (joined p n) else o) (linked_bad p rest)
linked_bad p (ALink n t rest) = ap (λ o. if is_bad n then Some (joined p n) else o) (linked_bad p rest)
linked_bad p (AFolder n inside rest) = linked_bad p rest

linked_bads : (p : List ℕ) (d : Dir) → folder_bad p (linked d) ≡ folder_bad p d
linked_bads p Nothing = refl
linked_bads p (AFile n b e t rest) = linked_bads p rest
linked_bads p (ALink n t rest) = linked_bads p rest
linked_bads p (AFolder n inside rest) = ap (λ o. if is_bad n then Some (joined p n) else option_or (leaf_bad (joined p n) inside) (option_or (folder_bad (joined p n) inside) o)) (linked_bads p rest)

linked_first : (d : Dir) → first_bad (as_read (linked d)) ≡ first_bad d
linked_first d = ap first_bad (linked_read d) ∙ ap (λ o. option_or o (folder_bad [] (linked d))) (linked_bad [] d) ∙ ap (option_or (leaf_bad [] d)) (linked_bads [] d)

-- what was written to its end, as it is answered
pub ended_some : (a : Algorithm) (w : Written) (r : ManifestRead) → Ends w r → IsOfTree a w → IsOfSomeTree a (Ok r)
ended_some a w (read.Read text) (none, is) x =
    let d = x.tree in
    let good : first_bad d ≡ None = sym x.bad ∙ none in
    let whole = good_read [] d (first_none (leaf_bad [] d) (folder_bad [] d) good) in
    (d, ap first_bad whole ∙ good, is ∙ x.text ∙ ap (λ (z : Dir). text_of (sketch a z)) (sym whole))
ended_some a w (read.BadName path) some x = (linked x.tree, linked_first x.tree ∙ sym x.bad ∙ some)
ended_some a w read.Missing none x = absurd none
ended_some a w (read.TooLarge what limit) none x = absurd none
