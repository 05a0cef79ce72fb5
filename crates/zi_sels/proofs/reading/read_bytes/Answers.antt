use Rattle.std.proofs.lemmas.Result.{err_from_is_err_and}
use Rattle.zi_sels.proofs.ReadingLaws.{refused, reads_value, reads_fault}
use Rattle.zi_sels.proofs.reading.read_bytes.Goals as goal

pub returns-in_err-tree-clause-fault : goal.returns-in_err-tree-clause-fault
returns-in_err-tree-clause-fault c =
    let q = err_from_is_err_and c.from_residual.result c.from_residual.ensures.1 in
    rw (q.1) (refused c.args.bytes.now c.in_err-tree.field-0.0 q.0 c.in_err-tree.ensures.fault q.2)

pub returns-clause-found : goal.returns-clause-found
returns-clause-found c = reads_value c.args.bytes.now c.in_ok-tree.tree c.read_tree.result c.in_ok-tree.ensures.found c.read_tree.ensures

pub returns-clause-fault : goal.returns-clause-fault
returns-clause-fault c = reads_fault c.args.bytes.now c.in_ok-tree.tree c.read_tree.result c.in_ok-tree.ensures.found c.read_tree.ensures
