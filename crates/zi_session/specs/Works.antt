-- The calls that fill an entry of a shelf with a tree and its manifest, in order, and how a session keeps them.
use Rattle.std.specs.Prelude.{ℕ, zero, suc, ◌/◌, ◌-◌, Bool, false, List, [], ◌∷◌, ◌++◌, map, length, take, drop, ℤ, pos}
use Rattle.zi_tree.specs.Dir.{Dir, Nothing, AFile, ALink, AFolder}
use Rattle.zi_shelf.specs.Filling.{Work, MakeFolder, Append, FinishFile, MakeLink}
use Rattle.zi_manifest.specs.Manifest.{own_name}
use Rattle.zi_session.specs.declared.work.Work.{Work as KeptWork}
use Rattle.zi_session.specs.declared.work.Work.TheVariants as kept

-- the call of the shelf
abbrev pub work_of : KeptWork → Work
work_of (kept.MakeFolder path) = MakeFolder path
work_of (kept.Append path bytes) = Append path bytes
work_of (kept.FinishFile path exec mtime) = FinishFile path exec mtime
work_of (kept.MakeLink path target) = MakeLink path target

-- so many pieces of 65,536 bytes, and what is left
abbrev pub cut : ℕ → List ℕ → List (List ℕ)
cut zero bytes = bytes ∷ []
cut (suc k) bytes = take 65536 bytes ∷ cut k (drop 65536 bytes)

-- the pieces of a file, of at most 65,536 bytes; an empty file has one, of no bytes
unfoldable pub pieces : List ℕ → List (List ℕ)
pieces bytes = cut ((length bytes - 1) / 65536) bytes

-- a file: its pieces, then what it is beside its bytes
abbrev pub file_works : List (List ℕ) → List ℕ → Bool → ℤ → List Work
file_works path bytes exec mtime = map (Append path) (pieces bytes) ++ FinishFile path exec mtime ∷ []

-- the same call, for what stands so in the folder at this path
abbrev pub below : List (List ℕ) → Work → Work
below folder (MakeFolder path) = MakeFolder (folder ++ path)
below folder (Append path bytes) = Append (folder ++ path) bytes
below folder (FinishFile path exec mtime) = FinishFile (folder ++ path) exec mtime
below folder (MakeLink path target) = MakeLink (folder ++ path) target

-- the calls for the files and links of a folder
abbrev pub leaf_works : Dir → List Work
leaf_works Nothing = []
leaf_works (AFile n b e t rest) = file_works (n ∷ []) b e t ++ leaf_works rest
leaf_works (ALink n t rest) = MakeLink (n ∷ []) t ∷ leaf_works rest
leaf_works (AFolder n inside rest) = leaf_works rest

-- the calls for its subfolders, each followed by those for all in it
abbrev pub folder_works : Dir → List Work
folder_works Nothing = []
folder_works (AFile n b e t rest) = folder_works rest
folder_works (ALink n t rest) = folder_works rest
folder_works (AFolder n inside rest) = MakeFolder (n ∷ []) ∷ map (below (n ∷ [])) (leaf_works inside ++ folder_works inside) ++ folder_works rest

-- the calls for the nodes of a tree, in the order of its manifest
abbrev pub node_works : Dir → List Work
node_works d = leaf_works d ++ folder_works d

-- all the calls that fill: those for the nodes, and then those for the file `.manifest` with this text
abbrev pub works_of : Dir → List ℕ → List Work
works_of d text = node_works d ++ file_works (own_name ∷ []) text false (pos 0)
