use Rattle.zi_tree.specs.Paths.{items, node_in}
use Rattle.zi_store.proofs.FileLemmas.{led_folder, led_file}
use Rattle.zi_store.proofs.files.way_from.Goals as goal

pub returns-in-Some-clause-way : goal.returns-in-Some-clause-way
returns-in-Some-clause-way g c d st =
    led_folder (node_in c.args.name.now (items d)) c.in_ok-kind_under.field-0 c.in-Some-Folder.field-0 c.in-Some-Folder.is c.in-Some-Folder.field-0-is (c.in_ok-kind_under.ensures.kind d st)

pub returns-in-Some-File-clause-way : goal.returns-in-Some-File-clause-way
returns-in-Some-File-clause-way g c d st =
    let f = c.in-Some-File in
    led_file (node_in c.args.name.now (items d)) c.in_ok-kind_under.field-0 f.field-0 f.field-0-0 f.field-0-1 f.field-0-2 f.is f.field-0-is (c.in_ok-kind_under.ensures.kind d st)
