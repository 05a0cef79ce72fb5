-- A tree entry by entry, in the order of its manifest, and the first limit that it passes there.
use Rattle.std.specs.Prelude.{◌≡◌, ℕ, ◌+◌, List, [], ◌∷◌, ◌++◌, length, Option, Some, None, nat_lt, if◌then◌else◌}
use Rattle.zi_tree.specs.Dir.{Dir, Nothing, AFile, ALink, AFolder}
use Rattle.zi_tree.specs.Limits.{depth_limit, nodes_limit, size_limit}
use Rattle.zi_tree.specs.declared.change.TreeLimit.{TreeLimit}
use Rattle.zi_tree.specs.declared.change.TreeLimit.TheVariants as limit

-- what counts of an entry: how deep a folder is, and how many bytes a file has
pub record Met : Type 0 where
  pub depth : ℕ
  pub size : ℕ

-- the files and links of a folder
abbrev pub leaves_met : Dir → List Met
leaves_met Nothing = []
leaves_met (AFile n b e t rest) = record { depth = 0; size = length b } ∷ leaves_met rest
leaves_met (ALink n t rest) = record { depth = 0; size = 0 } ∷ leaves_met rest
leaves_met (AFolder n inside rest) = leaves_met rest

-- its subfolders, which are so deep, each with all in it behind it
abbrev pub folders_met : ℕ → Dir → List Met
folders_met depth Nothing = []
folders_met depth (AFile n b e t rest) = folders_met depth rest
folders_met depth (ALink n t rest) = folders_met depth rest
folders_met depth (AFolder n inside rest) = record { depth = depth; size = 0 } ∷ (leaves_met inside ++ folders_met (depth + 1) inside) ++ folders_met depth rest

-- all entries of a folder that is so deep; the top folder has the depth 0
abbrev pub met : ℕ → Dir → List Met
met depth d = leaves_met d ++ folders_met (depth + 1) d

-- The first limit that is passed from so many entries and bytes on: at each entry that of depth first, then that of entries, then that of bytes. A number equal to its limit doesn't pass it.
abbrev pub first_passed : (nodes bytes : ℕ) → List Met → Option TreeLimit
first_passed nodes bytes [] = None
first_passed nodes bytes (m ∷ ms) =
    if nat_lt depth_limit m.depth then Some limit.Depth
    else if nat_lt nodes_limit (nodes + 1) then Some limit.Nodes
    else if nat_lt size_limit (bytes + m.size) then Some limit.Size
    else first_passed (nodes + 1) (bytes + m.size) ms

-- the first limit that a tree passes
abbrev pub passed : Dir → Option TreeLimit
passed d = first_passed 0 0 (met 0 d)

-- these entries pass no limit, and lead from these counts to those
abbrev pub Passes : (nodes bytes : ℕ) → List Met → (nodes' bytes' : ℕ) → Type 0
Passes nodes bytes ms nodes' bytes' = (rest : List Met) → first_passed nodes bytes (ms ++ rest) ≡ first_passed nodes' bytes' rest

-- this is the first limit that these entries pass
abbrev pub Stops : (nodes bytes : ℕ) → List Met → TreeLimit → Type 0
Stops nodes bytes ms what = (rest : List Met) → first_passed nodes bytes (ms ++ rest) ≡ Some what
