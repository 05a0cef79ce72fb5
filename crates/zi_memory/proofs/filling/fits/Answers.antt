use Rattle.std.proofs.Common.{is_some, sym, ◌∙◌, ap}
use Rattle.zi_tree.specs.Paths.{found, has_room}
use Rattle.zi_shelf.specs.Filling.{filled}
use Rattle.zi_memory.specs.Fillings.{work_at}
use Rattle.zi_shelf.specs.Fillings.{is_file}
use Rattle.zi_shelf.proofs.FillingLemmas.{folder_fits, link_fits, append_fits, finish_fits, first_holds, second_holds}
use Rattle.zi_memory.proofs.filling.fits.Goals as goal

pub returns-in-MakeFolder : goal.returns-in-MakeFolder
returns-in-MakeFolder c =
    let path = c.args.path.now in
    let d = c.args.tree.now in
    c.has_room.ensures ∙ sym (folder_fits path d) ∙ ap (λ f. is_some (filled (work_at path f) d)) (sym c.in-MakeFolder.is)

pub returns-in-MakeLink : goal.returns-in-MakeLink
returns-in-MakeLink c =
    let path = c.args.path.now in
    let d = c.args.tree.now in
    c.has_room-in-MakeLink.ensures ∙ sym (link_fits path c.in-MakeLink.field-0.now d) ∙ ap (λ f. is_some (filled (work_at path f) d)) (sym c.in-MakeLink.is)

pub returns-then-has_room : goal.returns-then-has_room
returns-then-has_room c =
    let path = c.args.path.now in
    let d = c.args.tree.now in
    first_holds c.has_room-in-Append.result (has_room path d) (is_file (found path d)) c.has_room-in-Append.ensures c.if-has_room.true ∙ sym (append_fits path c.in-Append.field-0.now d)
    ∙ ap (λ f. is_some (filled (work_at path f) d)) (sym c.in-Append.is)

pub returns-else-has_room : goal.returns-else-has_room
returns-else-has_room c =
    let path = c.args.path.now in
    let d = c.args.tree.now in
    second_holds c.has_room-in-Append.result (has_room path d) (is_file (found path d)) c.is_file.result c.has_room-in-Append.ensures c.if-has_room.false (c.is_file.ensures ∙ ap is_file c.find.ensures)
    ∙ sym (append_fits path c.in-Append.field-0.now d) ∙ ap (λ f. is_some (filled (work_at path f) d)) (sym c.in-Append.is)

pub returns-in-FinishFile : goal.returns-in-FinishFile
returns-in-FinishFile c =
    let path = c.args.path.now in
    let d = c.args.tree.now in
    c.is_file-in-FinishFile.ensures ∙ ap is_file c.find-in-FinishFile.ensures ∙ sym (finish_fits path c.in-FinishFile.exec c.in-FinishFile.mtime d)
    ∙ ap (λ f. is_some (filled (work_at path f) d)) (sym c.in-FinishFile.is)
