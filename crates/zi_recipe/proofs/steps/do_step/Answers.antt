use Rattle.std.proofs.Common.{refl}
use Rattle.std.proofs.lemmas.Result.{err_from_is_err_and}
use Rattle.zi_outside.specs.Views.{holding}
use Rattle.zi_recipe.proofs.StepLemmas.{file_fails, file_asks, file_does, file_asked, rename_does, rename_asked, remove_does, remove_asked}
use Rattle.zi_recipe.proofs.steps.do_step.Goals as goal

pub returns-in_err-bytes-in-File-clause-does : goal.returns-in_err-bytes-in-File-clause-does
returns-in_err-bytes-in-File-clause-does g c =
    let q = err_from_is_err_and c.from_residual.result c.from_residual.ensures.1 in
    file_fails (holding (g.W.Web.seen c.args.web.now)) c.args.tree.now c.args.step.now c.in-File.href c.in-File.size c.in-File.dest c.in-File.exec _ _ c.in_err-bytes-in-File.field-0.0
    c.in-File.is (rw q.2 at q.1) c.in_err-bytes-in-File.ensures.fetched

pub returns-in_err-bytes-in-File-clause-asks : goal.returns-in_err-bytes-in-File-clause-asks
returns-in_err-bytes-in-File-clause-asks g c =
    let q = err_from_is_err_and c.from_residual.result c.from_residual.ensures.1 in
    file_asks (holding (g.W.Web.seen c.args.web.now)) c.args.tree.now c.args.step.now c.in-File.href c.in-File.size c.in-File.dest c.in-File.exec _ _ _ c.in_err-bytes-in-File.field-0.0
    c.in-File.is (rw q.2 at q.1) c.in_err-bytes-in-File.ensures.asks

pub returns-in_ok-bytes-in-File-clause-does : goal.returns-in_ok-bytes-in-File-clause-does
returns-in_ok-bytes-in-File-clause-does g c =
    file_does (holding (g.W.Web.seen c.args.web.now)) c.args.tree.now c.args.step.now c.in-File.href c.in-File.size c.in-File.dest c.in-File.exec _ c.in_ok-bytes-in-File.bytes _ _
    c.in-File.is refl c.in_ok-bytes-in-File.ensures.fetched c.place.ensures

pub returns-in_ok-bytes-in-File-clause-asks : goal.returns-in_ok-bytes-in-File-clause-asks
returns-in_ok-bytes-in-File-clause-asks g c =
    file_asked (holding (g.W.Web.seen c.args.web.now)) c.args.tree.now c.args.step.now c.in-File.href c.in-File.size c.in-File.dest c.in-File.exec _ _ _ _ _
    c.in-File.is c.in_ok-bytes-in-File.ensures.asks c.place.ensures

pub returns-in-Rename-clause-does : goal.returns-in-Rename-clause-does
returns-in-Rename-clause-does g c =
    rename_does (holding (g.W.Web.seen c.args.web.now)) c.args.step.now c.in-Rename.source c.in-Rename.dest c.args.tree.now _ _ c.in-Rename.is c.rename.ensures

pub returns-in-Rename-clause-asks : goal.returns-in-Rename-clause-asks
returns-in-Rename-clause-asks g c =
    rename_asked c.args.step.now c.in-Rename.source c.in-Rename.dest c.args.tree.now _ _ _ c.in-Rename.is c.rename.ensures

pub returns-in-Remove-clause-does : goal.returns-in-Remove-clause-does
returns-in-Remove-clause-does g c =
    remove_does (holding (g.W.Web.seen c.args.web.now)) c.args.step.now c.in-Remove.path c.args.tree.now _ _ c.in-Remove.is c.remove.ensures

pub returns-in-Remove-clause-asks : goal.returns-in-Remove-clause-asks
returns-in-Remove-clause-asks g c =
    remove_asked _ c.args.step.now c.in-Remove.path c.args.tree.now _ _ c.in-Remove.is c.remove.ensures
