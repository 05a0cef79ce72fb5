-- What an honest shelf that tells what it holds has at a path.
use Rattle.std.specs.Prelude.{◌≡◌, true, List, [], ◌∷◌, ◌++◌, Option, Some}
use Rattle.zi_tree.specs.Dir.{Dir}
use Rattle.zi_tree.specs.Order.{is_plain}
use Rattle.zi_tree.specs.Paths.{found}
use Rattle.zi_tree.specs.declared.tree.TreeNode.{TreeNode}
use Rattle.zi_shelf.specs.Names.{Name}
use Rattle.zi_shelf.specs.Shelved.{Top}
use Rattle.zi_shelf.specs.Told.{Told}
use Rattle.zi_shelf.specs.Reading.{folder_at, kind_of}
use Rattle.zi_shelf.specs.declared.shelf.Entry.{Entry}

-- a folder stands there; the empty path leads to the whole top entry
pub record Stands (honest : Type 0) (told : Option Told) (top : Name) (path : List Name) (d : Dir) : Type 0 where
  pub keeps : honest
  pub state : Told
  pub tells : told ≡ Some state
  pub entry : Top Dir
  pub is_top : state.shelf.tops top ≡ Some entry
  pub is_there : folder_at path entry.tree ≡ Some d

-- a file, link or folder stands there, under a name
pub record StandsNode (honest : Type 0) (told : Option Told) (top : Name) (path : List Name) (x : TreeNode) : Type 0 where
  pub keeps : honest
  pub state : Told
  pub tells : told ≡ Some state
  pub entry : Top Dir
  pub is_top : state.shelf.tops top ≡ Some entry
  pub is_there : found path entry.tree ≡ Some x

-- an entry of a folder as a listing tells it, with what stands there under its name
pub record IsListed (honest : Type 0) (told : Option Told) (top : Name) (path : List Name) (entry : Entry) (x : TreeNode) : Type 0 where
  pub stands : StandsNode honest told top (path ++ entry.name ∷ []) x
  pub kind : entry.kind ≡ kind_of x
  pub name : is_plain entry.name ≡ true
