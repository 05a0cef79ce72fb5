use Rattle.std.proofs.Common.{◌≡◌, take}
use Rattle.std.specs.Prelude.{string_bytes}
use Rattle.zi_folder.specs.Paths.{in_folder, path_on}
use Rattle.zi_folder.proofs.folder_shelf.FolderShelf.way_to.Given as goal

abbrev pub invariant-loop-part : goal.invariant-loop-part
invariant-loop-part l = string_bytes l.path ≡ path_on (in_folder l.self.root l.top) (take l.part-index l.inside)
