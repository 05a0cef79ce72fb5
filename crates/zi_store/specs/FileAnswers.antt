-- What reading a file answers.
use Rattle.std.specs.Prelude.{◌≡◌, ℕ, ℤ, Bool, ◌≤◌, ◌<◌, List, length, Option, Some, None, Result, Ok, Err, ◌⊎◌}
use Rattle.zi_tree.specs.Dir.{Dir}
use Rattle.zi_tree.specs.Paths.{found}
use Rattle.zi_tree.specs.declared.tree.TreeNode.{TreeNode}
use Rattle.zi_tree.specs.declared.tree.TreeNode.TheVariants as node
use Rattle.zi_shelf.specs.Names.{Name}
use Rattle.zi_shelf.specs.Shelved.{Top, Shelved}
use Rattle.zi_shelf.specs.declared.shelf.ShelfFault.{ShelfFault}
use Rattle.zi_store.specs.declared.files.FileRead.{FileRead}
use Rattle.zi_store.specs.declared.files.FileRead.TheVariants as file
use Rattle.zi_store.specs.declared.files.Way.{Way}
use Rattle.zi_store.specs.declared.files.Way.TheVariants as way

abbrev pub bytes_in : Option TreeNode → Option (List ℕ)
bytes_in None = None
bytes_in (Some (node.File bytes exec mtime)) = Some bytes
bytes_in (Some (node.Link target)) = None
bytes_in (Some (node.Folder inside)) = None

abbrev pub bytes_under : List Name → Option (Top Dir) → Option (List ℕ)
bytes_under path None = None
bytes_under path (Some e) = bytes_in (found path e.tree)

-- the bytes of the file at a path in a top entry; None where no such entry is there, nothing stands at the path, or what stands there is a link or a folder
abbrev pub file_at : Name → List Name → Shelved Dir → Option (List ℕ)
file_at top path s = bytes_under path (s.tops top)

-- the file's bytes where they are no more than the limit, Missing where there is no file, TooLong where its bytes are more
abbrev pub ReadsFile : Name → List Name → ℕ → Result FileRead ShelfFault → Shelved Dir → Type 0
ReadsFile top path limit (Ok (file.Read bytes)) s = (file_at top path s ≡ Some bytes) × (length bytes ≤ limit)
ReadsFile top path limit (Ok file.Missing) s = file_at top path s ≡ None
ReadsFile top path limit (Ok file.TooLong) s = (bytes : List ℕ) × (file_at top path s ≡ Some bytes) × (limit < length bytes)
ReadsFile top path limit (Err e) s = Unit {0}

-- where a name leads, by what stands under it
abbrev pub Leads : Option TreeNode → Way → Type 0
Leads o (way.Into path) = (inside : Dir) × (o ≡ Some (node.Folder inside))
Leads o way.File = (bytes : List ℕ) × (exec : Bool) × (mtime : ℤ) × (o ≡ Some (node.File bytes exec mtime))
Leads o way.Nowhere = (o ≡ None) ⊎ ((target : List ℕ) × (o ≡ Some (node.Link target)))
