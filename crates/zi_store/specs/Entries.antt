-- The entries of a folder as a listing tells them.
use Rattle.std.specs.Prelude.{◌≡◌, ℕ, ◌+◌, ◌≤◌, ◌<◌, Bool, true, false, ◌&&◌, not, bytes_eq, List, [], ◌∷◌, ◌++◌, length, Option, Some, None, Result, Ok, Err}
use Rattle.zi_tree.specs.Dir.{Dir, Nothing, AFile, ALink, AFolder}
use Rattle.zi_tree.specs.declared.tree.TreeNode.{TreeNode}
use Rattle.zi_tree.specs.declared.tree.TreeNode.TheVariants as node
use Rattle.zi_shelf.specs.Told.{Told}
use Rattle.zi_shelf.specs.Reading.{Question, FitsReading}
use Rattle.zi_shelf.specs.declared.shelf.Entry.{Entry}
use Rattle.zi_shelf.specs.declared.shelf.EntryKind.{EntryKind}
use Rattle.zi_shelf.specs.declared.shelf.EntryKind.TheVariants as kind
use Rattle.zi_manifest.specs.Manifest.{own_name}
use Rattle.zi_store.specs.Walking.{Met, met, Passes, Stops}
use Rattle.zi_store.specs.declared.stop.Stop.{Stop}
use Rattle.zi_store.specs.declared.stop.Stop.TheVariants as stop

-- in the tree's order
abbrev pub entries_of : Dir → List Entry
entries_of Nothing = []
entries_of (AFile n b e t rest) = record { name = n; kind = kind.File e t (length b) } ∷ entries_of rest
entries_of (ALink n t rest) = record { name = n; kind = kind.Link } ∷ entries_of rest
entries_of (AFolder n inside rest) = record { name = n; kind = kind.Folder } ∷ entries_of rest

abbrev pub is_file_kind : EntryKind → Bool
is_file_kind (kind.File exec mtime size) = true
is_file_kind kind.Link = false
is_file_kind kind.Folder = false

abbrev pub is_folder_kind : EntryKind → Bool
is_folder_kind (kind.File exec mtime size) = false
is_folder_kind kind.Link = false
is_folder_kind kind.Folder = true

-- the file that holds a stored tree's manifest
abbrev pub is_own : Entry → Bool
is_own e = bytes_eq e.name own_name && is_file_kind e.kind

-- in the top folder all but that file are shown
abbrev pub is_shown : Bool → Entry → Bool
is_shown whole e = not (whole && is_own e)

-- the question fits what the shelf tells
abbrev pub Fits : Option Told → Question → Type 0
Fits told question = (s : Told) → told ≡ Some s → FitsReading s.shelf question

-- a file or link as it is, a folder emptied
abbrev pub bare : TreeNode → TreeNode
bare (node.File bytes exec mtime) = node.File bytes exec mtime
bare (node.Link target) = node.Link target
bare (node.Folder inside) = node.Folder Nothing

-- no entry
abbrev pub is_nothing : Dir → Bool
is_nothing Nothing = true
is_nothing (AFile n b e t rest) = false
is_nothing (ALink n t rest) = false
is_nothing (AFolder n inside rest) = false

-- the tree with its folders emptied
abbrev pub emptied : Dir → Dir
emptied Nothing = Nothing
emptied (AFile n b e t rest) = AFile n b e t (emptied rest)
emptied (ALink n t rest) = ALink n t (emptied rest)
emptied (AFolder n inside rest) = AFolder n Nothing (emptied rest)

-- what counts of a node, without what is in a folder
abbrev pub leaf_met : TreeNode → List Met
leaf_met (node.File bytes exec mtime) = record { depth = 0; size = length bytes } ∷ []
leaf_met (node.Link target) = record { depth = 0; size = 0 } ∷ []
leaf_met (node.Folder inside) = []

-- what counts of a subfolder that lies in a folder so deep: itself, and all in it
abbrev pub inner_met : ℕ → TreeNode → List Met
inner_met depth (node.File bytes exec mtime) = []
inner_met depth (node.Link target) = []
inner_met depth (node.Folder inside) = record { depth = depth + 1; size = 0 } ∷ met (depth + 1) inside

-- an empty folder stands there
abbrev pub is_empty_folder : Option TreeNode → Bool
is_empty_folder None = false
is_empty_folder (Some (node.File bytes exec mtime)) = false
is_empty_folder (Some (node.Link target)) = false
is_empty_folder (Some (node.Folder inside)) = is_nothing inside

-- what a walk over these entries gives, or the first limit that they pass
abbrev pub Walks : {X : Type 0} → X → List Met → (nodes bytes : ℕ) → Result X Stop → (nodes' bytes' : ℕ) → Type 0
Walks x ms nodes bytes (Ok y) nodes' bytes' = (y ≡ x) × Passes nodes bytes ms nodes' bytes'
Walks x ms nodes bytes (Err stop.Missing) nodes' bytes' = ⊥
Walks x ms nodes bytes (Err (stop.TooLarge what)) nodes' bytes' = Stops nodes bytes ms what
Walks x ms nodes bytes (Err (stop.Fault fault)) nodes' bytes' = Unit {0}

-- the bytes of a file where they are no more than the limit, else None
abbrev pub ReadsBytes : {E : Type 0} → List ℕ → ℕ → Result (Option (List ℕ)) E → Type 0
ReadsBytes bytes limit (Ok (Some read)) = (read ≡ bytes) × (length bytes ≤ limit)
ReadsBytes bytes limit (Ok None) = limit < length bytes
ReadsBytes bytes limit (Err e) = Unit {0}

-- the text begins with this front
abbrev pub IsFront : List ℕ → List ℕ → Type 0
IsFront front all = (rest : List ℕ) × (front ++ rest ≡ all)
