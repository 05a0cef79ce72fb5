-- What one entry of a folder adds to the manifest.
use Rattle.std.specs.Prelude.{◌++◌, ℕ, Bool, List, [], Option, None, Some, ◌&&◌, bytes_eq, if◌then◌else◌, length}
use Rattle.zi_digest.specs.declared.Algorithm.{Algorithm}
use Rattle.zi_tree.specs.Dir.{Dir}
use Rattle.zi_tree.specs.declared.tree.TreeNode.{TreeNode}
use Rattle.zi_tree.specs.declared.tree.TreeNode.TheVariants.{File, Link, Folder}
use Rattle.zi_manifest.specs.Sketch.{hash_of, file_line, link_line, folder_line, joined, sketch, leaf_text, folder_text}
use Rattle.zi_manifest.specs.Manifest.{own_name, is_bad, as_read, leaf_bad, folder_bad}
use Rattle.std.specs.Option.{option_or}

-- in the top folder a file `.manifest` isn't shown
abbrev pub shown : Bool → Dir → Dir
shown top d = if top then as_read d else d

abbrev pub is_own : Bool → List ℕ → Bool
is_own top n = top && bytes_eq n own_name

abbrev pub bad_name : List ℕ → List ℕ → Option (List ℕ)
bad_name p n = if is_bad n then Some (joined p n) else None

abbrev pub node_bad : Bool → List ℕ → List ℕ → TreeNode → Option (List ℕ)
node_bad top p n (File b e t) = if is_own top n then None else bad_name p n
node_bad top p n (Link t) = bad_name p n
node_bad top p n (Folder d) = None

abbrev pub node_text : Algorithm → Bool → List ℕ → TreeNode → List ℕ
node_text a top n (File b e t) = if is_own top n then [] else file_line (hash_of a b) e t (length b) n
node_text a top n (Link t) = link_line (hash_of a t) (length t) n
node_text a top n (Folder d) = []

-- the first bad name that a subfolder's own line and its lines meet
abbrev pub inner_bad : List ℕ → List ℕ → TreeNode → Option (List ℕ)
inner_bad p n (File b e t) = None
inner_bad p n (Link t) = None
inner_bad p n (Folder d) = if is_bad n then Some (joined p n) else option_or (leaf_bad (joined p n) d) (folder_bad (joined p n) d)

abbrev pub inner_text : Algorithm → List ℕ → List ℕ → TreeNode → List ℕ
inner_text a p n (File b e t) = []
inner_text a p n (Link t) = []
inner_text a p n (Folder d) = folder_line (joined p n) ++ leaf_text (sketch a d) ++ folder_text (joined p n) (sketch a d)
