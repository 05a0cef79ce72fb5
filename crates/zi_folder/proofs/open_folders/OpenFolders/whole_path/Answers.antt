use Rattle.std.proofs.Common.{rules, append_assoc}
use Rattle.std.specs.Prelude.{string_bytes}
use Rattle.zi_folder.proofs.OpenedLemmas.{longer_by}
use Rattle.zi_folder.proofs.open_folders.OpenFolders.whole_path.Goals as goal

pub loop-folder-preserved : goal.loop-folder-preserved
loop-folder-preserved c =
    longer_by (λ folder. folder.name) (string_bytes c.args.self.now.path) _ _ c.in-Some.inner.now c.loop-folder.folder-index c.folder-item.result c.loop-folder-test.true c.folder-item.is c.loop-folder.invariant (search (rules, append_assoc))
