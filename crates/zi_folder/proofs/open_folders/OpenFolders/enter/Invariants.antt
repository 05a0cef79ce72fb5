use Rattle.std.proofs.Common.{◌≡◌, ◌++◌, take, None}
use Rattle.zi_folder.specs.Opened.{way}
use Rattle.zi_folder.proofs.open_folders.OpenFolders.enter.Given as goal

abbrev pub invariant-loop-part : goal.invariant-loop-part
invariant-loop-part l = record {
  way : way l.self ≡ take l.common (way l.initial.self) ++ take l.part-index l.more;
  file : l.self.file ≡ None;
  path : (l.self.path ≡ l.initial.self.path) × (l.self.numbered ≡ l.initial.self.numbered);
}
