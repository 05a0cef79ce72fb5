-- The calls make the tree.
use Rattle.std.proofs.Common.{◌≡◌, ◌<◌, arith, zero, suc, option_and_then, ℕ, true, false, nat_lt, List, [], ◌∷◌, ◌++◌, map, length, pos, Option, Some, None, refl, sym, ◌∙◌, ap, if◌then◌else◌}
use Rattle.std.specs.Ordering.{is_lt}
use Rattle.std.specs.List.{list_all}
use Rattle.std.specs.Str.{IsAscii, is_utf8}
use Rattle.std.proofs.lemmas.Str.Ascii.{IsAscii-nil, IsAscii-cons}
use Rattle.std.proofs.lemmas.Str.{IsUtf8-from_ascii, is_utf8-from_IsUtf8}
use Rattle.std.proofs.lemmas.Bool.Decides.{nat_tests}
use Rattle.std.proofs.lemmas.Bool.{and_parts, and_from}
use Rattle.zi_digest.specs.declared.Algorithm.{Algorithm}
use Rattle.zi_digest.specs.Name.{name_of}
use Rattle.zi_tree.specs.Dir.{Dir, Nothing, AFile, ALink, AFolder}
use Rattle.zi_tree.specs.declared.tree.TreeNode.TheVariants.{File, Link, Folder}
use Rattle.zi_tree.specs.Views.{Item, dir}
use Rattle.zi_tree.specs.Paths.{items, node_in, placed}
use Rattle.zi_tree.specs.Order.{is_tree, is_name, is_plain}
use Rattle.zi_tree.proofs.Order.{cmp, parts}
use Rattle.zi_tree.proofs.Replaced.{dir_items}
use Rattle.zi_shelf.specs.Filling.{Work, MakeFolder, MakeLink, trees, filled}
use Rattle.zi_manifest.specs.Sketch.{sketch, text_of}
use Rattle.zi_manifest.specs.Manifest.{own_name, as_read, digest_of}
use Rattle.zi_session.specs.Works.{file_works, below, leaf_works, folder_works, node_works, works_of}
use Rattle.zi_session.specs.Made.{made}
use Rattle.zi_session.specs.Rebuilding.{with_manifest, Rebuilds, FitsAt}
use Rattle.zi_session.proofs.Placed.{node_placed, replaced_placed, free_behind, tree_placed}
use Rattle.zi_session.proofs.Runs.{run, run_is_made, run_then, run_both, make_folder, make_link, make_file, run_in}
use Rattle.zi_session.proofs.Placing.{leaves_on, folders_on, all_placed, AreFree, free_at_start, free_after, FoldersFree, folders_free_after, folders_free}

run_leaves : (d : Dir) (is : List Item) → is_tree d ≡ true → AreFree d is → run (leaf_works d) (dir is) ≡ Some (dir (leaves_on d is))
run_leaves Nothing is o f = refl
run_leaves (AFile n b e t rest) is o f =
    let p = parts n (File b e t) rest o in
    run_both (file_works (n ∷ []) b e t) (leaf_works rest) (dir is) (dir (placed n (File b e t) is)) (Some (dir (leaves_on rest (placed n (File b e t) is))))
    (make_file n b e t is f.0)
    (run_leaves rest (placed n (File b e t) is) p.rest_ (free_after rest n (File b e t) is p.before f.1))
run_leaves (ALink n t rest) is o f =
    let p = parts n (Link t) rest o in
    run_then (MakeLink (n ∷ []) t) (leaf_works rest) (dir is) (dir (placed n (Link t) is)) (Some (dir (leaves_on rest (placed n (Link t) is))))
    (make_link n t is f.0)
    (run_leaves rest (placed n (Link t) is) p.rest_ (free_after rest n (Link t) is p.before f.1))
run_leaves (AFolder n inside rest) is o f = run_leaves rest is (parts n (Folder inside) rest o).rest_ f.1

-- the nodes of a folder from the calls of its leaves and of its subfolders
both_parts : (d : Dir) → is_tree d ≡ true → run (folder_works d) (dir (leaves_on d [])) ≡ Some (dir (folders_on d (leaves_on d []))) → run (node_works d) Nothing ≡ Some d
both_parts d o h =
    run_both (leaf_works d) (folder_works d) Nothing (dir (leaves_on d [])) (Some d) (run_leaves d [] o (free_at_start d))
    (h ∙ ap (λ (l : List Item). Some (dir l)) (all_placed d o) ∙ ap Some (dir_items d))

run_folders : (d : Dir) (is : List Item) → is_tree d ≡ true → FoldersFree d is → run (folder_works d) (dir is) ≡ Some (dir (folders_on d is))
run_folders Nothing is o f = refl
run_folders (AFile n b e t rest) is o f = run_folders rest is (parts n (File b e t) rest o).rest_ f
run_folders (ALink n t rest) is o f = run_folders rest is (parts n (Link t) rest o).rest_ f
run_folders (AFolder n inside rest) is o f =
    let p = parts n (Folder inside) rest o in
    let new = placed n (Folder Nothing) is in
    let full = placed n (Folder inside) is in
    let made_inside : run (node_works inside) Nothing ≡ Some inside = both_parts inside p.node (run_folders inside (leaves_on inside []) p.node (folders_free inside [] p.node (free_at_start inside))) in
    let result : Option Dir = Some (dir (folders_on rest full)) in
    run_then (MakeFolder (n ∷ [])) (map (below (n ∷ [])) (node_works inside) ++ folder_works rest) (dir is) (dir new) result
    (make_folder n is f.0)
    (run_both (map (below (n ∷ [])) (node_works inside)) (folder_works rest) (dir new) (dir full) result
    (run_in (node_works inside) n new Nothing inside (node_placed n (Folder Nothing) is f.0) made_inside
    ∙ ap (λ (l : List Item). Some (dir l)) (replaced_placed n (Folder Nothing) (Folder inside) is f.0))
    (run_folders rest full p.rest_ (folders_free_after rest n (Folder inside) is p.before f.1)))

-- the calls for the nodes make a tree
pub run_nodes : (d : Dir) → is_tree d ≡ true → run (node_works d) Nothing ≡ Some d
run_nodes d o = both_parts d o (run_folders d (leaves_on d []) o (folders_free d [] o (free_at_start d)))

-- a tree without a top `.manifest` is read as it is
pub read_free : (d : Dir) → node_in own_name (items d) ≡ None → as_read d ≡ d
read_free Nothing h = refl
read_free (AFile n b e t rest) h = let f = free_behind own_name (n, File b e t) (items rest) h in rw f.0 (ap (AFile n b e t) (read_free rest f.1))
read_free (ALink n t rest) h = ap (ALink n t) (read_free rest (free_behind own_name (n, Link t) (items rest) h).1)
read_free (AFolder n inside rest) h = ap (AFolder n inside) (read_free rest (free_behind own_name (n, Folder inside) (items rest) h).1)

-- read with one more file `.manifest`
read_placed : (d : Dir) (m : List ℕ) → node_in own_name (items d) ≡ None → as_read (dir (placed own_name (File m false (pos 0)) (items d))) ≡ d
read_placed Nothing m h = refl
read_placed (AFile n b e t rest) m h =
    let f = free_behind own_name (n, File b e t) (items rest) h in
    elim (is_lt (cmp own_name n)) as (λ l. as_read (dir (if l then (own_name, File m false (pos 0)) ∷ (n, File b e t) ∷ items rest else (n, File b e t) ∷ placed own_name (File m false (pos 0)) (items rest))) ≡ AFile n b e t rest) [
      | true ↦ ap as_read (dir_items (AFile n b e t rest)) ∙ read_free (AFile n b e t rest) h
      | false ↦ rw f.0 (ap (AFile n b e t) (read_placed rest m f.1))
    ]
read_placed (ALink n t rest) m h =
    let f = free_behind own_name (n, Link t) (items rest) h in
    elim (is_lt (cmp own_name n)) as (λ l. as_read (dir (if l then (own_name, File m false (pos 0)) ∷ (n, Link t) ∷ items rest else (n, Link t) ∷ placed own_name (File m false (pos 0)) (items rest))) ≡ ALink n t rest) [
      | true ↦ ap as_read (dir_items (ALink n t rest)) ∙ read_free (ALink n t rest) h
      | false ↦ ap (ALink n t) (read_placed rest m f.1)
    ]
read_placed (AFolder n inside rest) m h =
    let f = free_behind own_name (n, Folder inside) (items rest) h in
    elim (is_lt (cmp own_name n)) as (λ l. as_read (dir (if l then (own_name, File m false (pos 0)) ∷ (n, Folder inside) ∷ items rest else (n, Folder inside) ∷ placed own_name (File m false (pos 0)) (items rest))) ≡ AFolder n inside rest) [
      | true ↦ ap as_read (dir_items (AFolder n inside rest)) ∙ read_free (AFolder n inside rest) h
      | false ↦ ap (AFolder n inside) (read_placed rest m f.1)
    ]

-- `.manifest` is a name
ascii : (n : List ℕ) → list_all (λ c. nat_lt c 128) n ≡ true → IsAscii n
ascii [] h = IsAscii-nil
ascii (c ∷ cs) h = let p = and_parts (nat_lt c 128) (list_all (λ d. nat_lt d 128) cs) h in IsAscii-cons c cs (low c p.0) (ascii cs p.1)
  where
    low : (d : ℕ) → nat_lt d 128 ≡ true → d < 128
    low d e = grind (arith, nat_tests)

own_named : is_name own_name ≡ true
own_named = and_from (is_utf8 own_name) (is_plain own_name) (is_utf8-from_IsUtf8 own_name (IsUtf8-from_ascii own_name (ascii own_name refl))) refl

same_digest : (a : Algorithm) (d e : Dir) → as_read e ≡ as_read d → digest_of a e ≡ digest_of a d
same_digest a d e h = ap (λ x. name_of a (text_of (sketch a x))) h

fits_at : (ws : List Work) (d y : Dir) (k : ℕ) → run ws d ≡ Some y → k < length ws → FitsAt ws d k
fits_at [] d y k h lt = absurd (omega arith)
fits_at (w ∷ ws) d y zero h0 lt =
    elim (filled w d) as (λ o. filled w d ≡ o → option_and_then (run ws) o ≡ Some y → FitsAt (w ∷ ws) d zero) [
      | None ↦ λ e h. absurd (cc h)
      | Some x ↦ λ e h. (d, w, refl, refl, rw e refl)
    ] refl h0
fits_at (w ∷ ws) d y (suc k) h0 lt =
    elim (filled w d) as (λ o. filled w d ≡ o → option_and_then (run ws) o ≡ Some y → FitsAt (w ∷ ws) d (suc k)) [
      | None ↦ λ e h. absurd (cc h)
      | Some x ↦ λ e h. (let r = fits_at ws x y k h (omega arith) in (r.0, r.1, ap (option_and_then (made trees ws k)) e ∙ r.2, r.3, r.4))
    ] refl h0

-- all calls, one after another
run_works : (d : Dir) (text : List ℕ) → is_tree d ≡ true → node_in own_name (items d) ≡ None → run (works_of d text) Nothing ≡ Some (with_manifest d text)
run_works d text o free =
    run_both (node_works d) (file_works (own_name ∷ []) text false (pos 0)) Nothing d (Some (with_manifest d text)) (run_nodes d o)
    (ap (run (file_works (own_name ∷ []) text false (pos 0))) (sym (dir_items d)) ∙ make_file own_name text false (pos 0) (items d) free)

pub rebuilds : Rebuilds
rebuilds d text o free =
    let r = run_works d text o free in
    let back = read_placed d text free in
    record {
      makes = run_is_made (works_of d text) Nothing ∙ r;
      fits = λ k lt. fits_at (works_of d text) Nothing (with_manifest d text) k r lt;
      read = back;
      digest = λ a. same_digest a d (with_manifest d text) (back ∙ sym (read_free d free));
      whole = tree_placed own_name (File text false (pos 0)) (items d) free own_named refl (ap is_tree (dir_items d) ∙ o);
    }
