use Rattle.std.proofs.Common.{rules}
use Rattle.std.proofs.lemmas.Result.{err_from_is_err_and}
use Rattle.zi_store.proofs.FileLemmas.{file_read, file_long, file_sure}
use Rattle.zi_store.proofs.files.read_file.Goals as goal

pub returns-in_err-bytes-clause-sure : goal.returns-in_err-bytes-clause-sure
returns-in_err-bytes-clause-sure g c sure failed =
    let p = err_from_is_err_and c.from_residual-in_err-bytes.result c.from_residual-in_err-bytes.ensures.1 in
    file_sure c.args.top.now c.args.path.now c.in_ok-is_file.field-0 ⊥ c.in_ok-is_file.ensures.keeps (g.met.K.Shelf.sure_is c.args.k.now sure) c.in_ok-is_file.ensures.file (search (rules, c.if-not-branch.false))
    (λ bytes exec mtime st. c.in_err-bytes.ensures.sure (c.in_ok-is_file.ensures.keeps.stays.sure sure) bytes exec mtime st (cc (p.1, p.2, failed)))

pub returns-in-Some-clause-file : goal.returns-in-Some-clause-file
returns-in-Some-clause-file g c s honest tells =
    file_read c.args.top.now c.args.path.now c.in_ok-is_file.field-0 c.args.limit c.in_ok-bytes.field-0 c.in-Some.bytes c.in_ok-is_file.ensures.keeps s honest tells (c.in_ok-is_file.ensures.file s honest tells) (search (rules, c.if-not-branch.false)) c.in-Some.is
    (λ bytes exec mtime st. c.in_ok-bytes.ensures.bytes bytes exec mtime st)

pub returns-in-None-clause-file : goal.returns-in-None-clause-file
returns-in-None-clause-file g c s honest tells =
    file_long c.args.top.now c.args.path.now c.in_ok-is_file.field-0 c.args.limit c.in_ok-bytes.field-0 c.in_ok-is_file.ensures.keeps s honest tells (c.in_ok-is_file.ensures.file s honest tells) (search (rules, c.if-not-branch.false)) c.in-None.is
    (λ bytes exec mtime st. c.in_ok-bytes.ensures.bytes bytes exec mtime st)
