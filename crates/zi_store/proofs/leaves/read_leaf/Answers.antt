use Rattle.std.proofs.Common.{sym, ◌∙◌, w64, rules, FitsSigned}
use Rattle.std.proofs.lemmas.Int.{to_z-of_z}
use Rattle.std.proofs.lemmas.Result.{err_from_is_err_and}
use Rattle.zi_store.proofs.WalkLemmas.{failed_passed}
use Rattle.zi_store.proofs.LeafLemmas.{as_file, file_stops, file_walks}
use Rattle.zi_store.proofs.leaves.read_leaf.Goals as goal

pub returns-in_err-bytes-in-File-clause-walks : goal.returns-in_err-bytes-in-File-clause-walks
returns-in_err-bytes-in-File-clause-walks g c x st k =
    let p = err_from_is_err_and c.from_residual-in_err-bytes-in-File.result c.from_residual-in_err-bytes-in-File.ensures.1 in
    file_stops x c.in-File.exec c.in-File.mtime c.in-File.size c.args.counts.now.nodes c.args.counts.now.bytes _ _ _ _ _ p.0 c.in_err-bytes-in-File.field-0.0 p.1 p.2 (sym c.in-File.is ∙ k) st (λ bytes e t s. c.in_err-bytes-in-File.ensures.walks bytes e t s)

pub returns-in_err-bytes-in-File-clause-sure : goal.returns-in_err-bytes-in-File-clause-sure
returns-in_err-bytes-in-File-clause-sure g c sure x st k e =
    let p = err_from_is_err_and c.from_residual-in_err-bytes-in-File.result c.from_residual-in_err-bytes-in-File.ensures.1 in
    as_file x c.in-File.exec c.in-File.mtime c.in-File.size (sym c.in-File.is ∙ k) st (λ bytes x t s. c.in_err-bytes-in-File.ensures.sure sure bytes x t s (failed_passed c.from_residual-in_err-bytes-in-File.result p.0 c.in_err-bytes-in-File.field-0.0 p.1 p.2 e))

pub returns-in_ok-bytes-in-File-clause-walks : goal.returns-in_ok-bytes-in-File-clause-walks
returns-in_ok-bytes-in-File-clause-walks g c x st k =
    let fits : FitsSigned w64 c.in-File.mtime = search rules in
    file_walks x c.in-File.exec c.in-File.mtime _ c.in-File.size _ c.args.counts.now.nodes c.args.counts.now.bytes _ _ (to_z-of_z w64 c.in-File.mtime fits) (sym c.in-File.is ∙ k) st (λ bytes e t s. c.in_ok-bytes-in-File.ensures.walks bytes e t s)
