-- A folder, entry by entry.
use Rattle.std.proofs.Common.{◌≡◌, ℕ, Bool, true, false, ◌&&◌, List, [], ◌++◌, length, Option, Some, None, refl, sym, ap, bytes_eq, if◌then◌else◌}
use Rattle.std.specs.Option.{option_or}
use Rattle.zi_digest.specs.declared.Algorithm.{Algorithm}
use Rattle.zi_tree.specs.Dir.{Dir, Nothing, AFile, ALink, AFolder}
use Rattle.zi_tree.specs.declared.tree.TreeNode.{TreeNode}
use Rattle.zi_tree.specs.declared.tree.TreeNode.TheVariants.{File, Link, Folder}
use Rattle.zi_tree.specs.Views.{entry_of}
use Rattle.zi_manifest.specs.Sketch.{hash_of, sketch, joined, file_line, folder_line, leaf_text, folder_text}
use Rattle.zi_manifest.specs.Manifest.{own_name, is_bad, as_read, leaf_bad, folder_bad}
use Rattle.zi_manifest.specs.Walk.{shown, bad_name, node_bad, node_text, inner_bad, inner_text}

pub shown_nothing : (top : Bool) → shown top Nothing ≡ Nothing
shown_nothing true = refl
shown_nothing false = refl

pub bad_entry : (top : Bool) (p n : List ℕ) (x : TreeNode) (d : Dir) → leaf_bad p (shown top (entry_of n x d)) ≡ option_or (node_bad top p n x) (leaf_bad p (shown top d))
bad_entry true p n (File b e t) d =
    elim (bytes_eq n own_name) as (λ o. leaf_bad p (if o then as_read d else AFile n b e t (as_read d)) ≡ option_or (if true && o then None else bad_name p n) (leaf_bad p (as_read d))) [
      | true ↦ refl
      | false ↦ if_or (is_bad n) (joined p n) (leaf_bad p (as_read d))
    ]
  where
    if_or : (c : Bool) (x : List ℕ) (o : Option (List ℕ)) → (if c then Some x else o) ≡ option_or (if c then Some x else None) o
    if_or true x o = refl
    if_or false x o = refl
bad_entry false p n (File b e t) d = elim (is_bad n) as (λ c. (if c then Some (joined p n) else leaf_bad p d) ≡ option_or (if c then Some (joined p n) else None) (leaf_bad p d)) [ true ↦ refl | false ↦ refl ]
bad_entry true p n (Link t) d = elim (is_bad n) as (λ c. (if c then Some (joined p n) else leaf_bad p (as_read d)) ≡ option_or (if c then Some (joined p n) else None) (leaf_bad p (as_read d))) [ true ↦ refl | false ↦ refl ]
bad_entry false p n (Link t) d = elim (is_bad n) as (λ c. (if c then Some (joined p n) else leaf_bad p d) ≡ option_or (if c then Some (joined p n) else None) (leaf_bad p d)) [ true ↦ refl | false ↦ refl ]
bad_entry true p n (Folder i) d = refl
bad_entry false p n (Folder i) d = refl

pub text_entry : (a : Algorithm) (top : Bool) (n : List ℕ) (x : TreeNode) (d : Dir) → leaf_text (sketch a (shown top (entry_of n x d))) ≡ node_text a top n x ++ leaf_text (sketch a (shown top d))
text_entry a true n (File b e t) d =
    elim (bytes_eq n own_name) as (λ o. leaf_text (sketch a (if o then as_read d else AFile n b e t (as_read d))) ≡ (if true && o then [] else file_line (hash_of a b) e t (length b) n) ++ leaf_text (sketch a (as_read d))) [
      | true ↦ refl
      | false ↦ refl
    ]
text_entry a false n (File b e t) d = refl
text_entry a true n (Link t) d = refl
text_entry a false n (Link t) d = refl
text_entry a true n (Folder i) d = refl
text_entry a false n (Folder i) d = refl

-- the folders of a tree as read
pub folders_read_bad : (p : List ℕ) (d : Dir) → folder_bad p (as_read d) ≡ folder_bad p d
folders_read_bad p Nothing = refl
folders_read_bad p (AFile n b e t rest) = elim (bytes_eq n own_name) as (λ o. folder_bad p (if o then as_read rest else AFile n b e t (as_read rest)) ≡ folder_bad p rest) [ true ↦ folders_read_bad p rest | false ↦ folders_read_bad p rest ]
folders_read_bad p (ALink n t rest) = folders_read_bad p rest
folders_read_bad p (AFolder n inside rest) = ap (λ o. if is_bad n then Some (joined p n) else option_or (leaf_bad (joined p n) inside) (option_or (folder_bad (joined p n) inside) o)) (folders_read_bad p rest)

pub folders_read_text : (a : Algorithm) (p : List ℕ) (d : Dir) → folder_text p (sketch a (as_read d)) ≡ folder_text p (sketch a d)
folders_read_text a p Nothing = refl
folders_read_text a p (AFile n b e t rest) = elim (bytes_eq n own_name) as (λ o. folder_text p (sketch a (if o then as_read rest else AFile n b e t (as_read rest))) ≡ folder_text p (sketch a rest)) [ true ↦ folders_read_text a p rest | false ↦ folders_read_text a p rest ]
folders_read_text a p (ALink n t rest) = folders_read_text a p rest
folders_read_text a p (AFolder n inside rest) = ap (λ l. folder_line (joined p n) ++ leaf_text (sketch a inside) ++ folder_text (joined p n) (sketch a inside) ++ l) (folders_read_text a p rest)

-- the same for the subfolders
pub or_assoc : (o p q : Option (List ℕ)) → option_or (option_or o p) q ≡ option_or o (option_or p q)
or_assoc None p q = refl
or_assoc (Some x) p q = refl

pub inner_bad_entry : (p n : List ℕ) (x : TreeNode) (d : Dir) → folder_bad p (entry_of n x d) ≡ option_or (inner_bad p n x) (folder_bad p d)
inner_bad_entry p n (File b e t) d = refl
inner_bad_entry p n (Link t) d = refl
inner_bad_entry p n (Folder i) d =
    elim (is_bad n) as (λ c. (if c then Some (joined p n) else option_or (leaf_bad (joined p n) i) (option_or (folder_bad (joined p n) i) (folder_bad p d)))
    ≡ option_or (if c then Some (joined p n) else option_or (leaf_bad (joined p n) i) (folder_bad (joined p n) i)) (folder_bad p d)) [
      | true ↦ refl
      | false ↦ sym (or_assoc (leaf_bad (joined p n) i) (folder_bad (joined p n) i) (folder_bad p d))
    ]

pub inner_text_entry : (a : Algorithm) (p n : List ℕ) (x : TreeNode) (d : Dir) → folder_text p (sketch a (entry_of n x d)) ≡ inner_text a p n x ++ folder_text p (sketch a d)
inner_text_entry a p n (File b e t) d = refl
inner_text_entry a p n (Link t) d = refl
inner_text_entry a p n (Folder i) d = refl
