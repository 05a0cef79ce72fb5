use Rattle.std.proofs.Common.{rules, append_assoc}
use Rattle.zi_folder.specs.Paths.{in_folder}
use Rattle.zi_folder.proofs.OpenedLemmas.{longer}
use Rattle.zi_folder.proofs.folder_shelf.FolderShelf.way_to.Goals as goal

pub loop-part-preserved : goal.loop-part-preserved
loop-part-preserved c =
    longer (in_folder c.args.self.now.root c.args.top.now) _ _ c.args.inside.now c.loop-part.part-index c.part-item.result c.loop-part-test.true c.part-item.is c.loop-part.invariant (search (rules, append_assoc))
