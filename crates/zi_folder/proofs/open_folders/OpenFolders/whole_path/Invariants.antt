use Rattle.std.proofs.Common.{◌≡◌, map, take}
use Rattle.std.specs.Prelude.{string_bytes}
use Rattle.zi_folder.specs.Paths.{path_on}
use Rattle.zi_folder.proofs.open_folders.OpenFolders.whole_path.Given as goal

abbrev pub invariant-loop-folder : goal.invariant-loop-folder
invariant-loop-folder l = string_bytes l.path ≡ path_on (string_bytes l.self.path) (map (λ folder. folder.name) (take l.folder-index l.inner))
