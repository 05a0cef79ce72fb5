use Rattle.std.proofs.Common.{true, false, sym, ◌∙◌}
use Rattle.std.proofs.lemmas.Result.{err_from_is_err_and}
use Rattle.zi_launching.proofs.AddLaws.{shim_unsure, shim_there, shim_added, shim_unadded, of_one}
use Rattle.zi_launching.proofs.shims.add_shim.Goals as goal

pub returns-in_err-tree : goal.returns-in_err-tree
returns-in_err-tree g c =
    let q = err_from_is_err_and c.from_residual.result c.from_residual.ensures.1 in
    rw q.1 (shim_unsure _ _ _ _ q.0 q.2)

pub returns-in_err-name : goal.returns-in_err-name
returns-in_err-name g c =
    let q = err_from_is_err_and c.from_residual-in_err-name.result c.from_residual-in_err-name.ensures.1 in
    rw q.1 (shim_unsure _ _ _ _ q.0 q.2)

pub returns-in_err-known : goal.returns-in_err-known
returns-in_err-known g c =
    let q = err_from_is_err_and c.from_residual-in_err-known.result c.from_residual-in_err-known.ensures.1 in
    rw q.1 (shim_unsure _ _ _ _ q.0 q.2)

pub returns-in_err-add : goal.returns-in_err-add
returns-in_err-add g c =
    let q = err_from_is_err_and c.from_residual-in_err-add.result c.from_residual-in_err-add.ensures.1 in
    rw q.1 (shim_unsure _ _ _ _ q.0 q.2)

pub returns-then-known : goal.returns-then-known
returns-then-known g c =
    let is = rw (c.in_ok-tree.ensures.tree, c.as_slice.ensures) at c.in_ok-name.ensures in
    let known = rw c.as_slice-2.ensures at c.in_ok-known.ensures in
    shim_there _ _ _ _ is (of_one _ true (sym known ∙ c.if-known.true))

pub returns-in-Ok : goal.returns-in-Ok
returns-in-Ok g c =
    let is = rw (c.in_ok-tree.ensures.tree, c.as_slice.ensures) at c.in_ok-name.ensures in
    let known = rw c.as_slice-2.ensures at c.in_ok-known.ensures in
    shim_added _ _ _ _ _ _ is (of_one _ false (sym known ∙ c.if-known.false)) c.in_ok-add.ensures.ok c.in-Ok.field-0 (rw (c.in_ok-tree.ensures.tree, c.as_slice.ensures) at c.in-Ok.ensures)

pub returns-in-Err : goal.returns-in-Err
returns-in-Err g c =
    let is = rw (c.in_ok-tree.ensures.tree, c.as_slice.ensures) at c.in_ok-name.ensures in
    let known = rw c.as_slice-2.ensures at c.in_ok-known.ensures in
    shim_unadded _ _ _ _ _ _ is (of_one _ false (sym known ∙ c.if-known.false)) c.in-Err.fault _ (rw (c.in_ok-tree.ensures.tree, c.as_slice.ensures) at c.in-Err.ensures) c.unadded.ensures
