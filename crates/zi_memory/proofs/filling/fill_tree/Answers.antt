use Rattle.std.proofs.Common.{◌≡◌, true, is_some, sym, ◌∙◌, ap}
use Rattle.zi_tree.specs.declared.tree.TreeNode.TheVariants.{Link, Folder}
use Rattle.zi_tree.specs.Paths.{inserted}
use Rattle.zi_shelf.specs.Filling.{MakeFolder, MakeLink, filled}
use Rattle.zi_memory.specs.Fillings.{work_at}
use Rattle.zi_shelf.proofs.FillingLemmas.{on_ok_then, folder_made, link_made}
use Rattle.zi_memory.proofs.filling.fill_tree.Goals as goal

pub returns-in-MakeFolder-clause-ok : goal.returns-in-MakeFolder-clause-ok
returns-in-MakeFolder-clause-ok c =
    let path = c.args.path.now in
    let d = c.args.tree.now in
    let fits : is_some (filled (MakeFolder path) d) ≡ true = ap (λ f. is_some (filled (work_at path f) d)) (sym c.in-MakeFolder.is) ∙ c.requires in
    on_ok_then c.make.result c.make.ensures.ok (λ e. ap (λ f. filled (work_at path f) d) c.in-MakeFolder.is ∙ folder_made path d fits ∙ ap (λ t. inserted path (Folder t) d) (sym c.new.ensures) ∙ e)

pub returns-in_ok-target-in-MakeLink-clause-ok : goal.returns-in_ok-target-in-MakeLink-clause-ok
returns-in_ok-target-in-MakeLink-clause-ok c =
    let path = c.args.path.now in
    let d = c.args.tree.now in
    let text = c.in-MakeLink.target.now in
    let fits : is_some (filled (MakeLink path text) d) ≡ true = ap (λ f. is_some (filled (work_at path f) d)) (sym c.in-MakeLink.is) ∙ c.requires in
    on_ok_then c.make-in-MakeLink.result c.make-in-MakeLink.ensures.ok (λ e. ap (λ f. filled (work_at path f) d) c.in-MakeLink.is ∙ link_made path text d fits
    ∙ ap (λ t. inserted path (Link t) d) (sym c.in_ok-target-in-MakeLink.ensures) ∙ e)
