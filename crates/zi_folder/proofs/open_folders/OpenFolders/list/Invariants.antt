use Rattle.std.proofs.Common.{◌≡◌}
use Rattle.zi_folder.specs.Opened.{way}
use Rattle.zi_folder.proofs.open_folders.OpenFolders.list.Given as goal

abbrev pub invariant-loop : goal.invariant-loop
invariant-loop l = way l.self ≡ way l.initial.self
