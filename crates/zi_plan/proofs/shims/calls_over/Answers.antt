use Rattle.std.proofs.Common.{map, ap}
use Rattle.std.proofs.lemmas.Result.{err_from_is_err_and}
use Rattle.zi_plan.specs.Plans.{bound}
use Rattle.zi_plan.specs.Steps.{placed_seen, bound_seen}
use Rattle.zi_plan.proofs.CallLaws.{bound_refused, bound_called}
use Rattle.zi_plan.proofs.shims.calls_over.Goals as goal

pub returns-in_err-apply_all : goal.returns-in_err-apply_all
returns-in_err-apply_all c =
    let p = err_from_is_err_and c.from_residual-in_err-apply_all.result c.from_residual-in_err-apply_all.ensures.1 in
    rw (p.1, p.2)
    (bound_refused (map placed_seen c.args.placed.now) c.args.vars.now c.in_err-apply_all.field-0.0
    (rw (c.as_slice-bounds.ensures.value, c.in_ok-bounds.ensures, c.in_ok-table.ensures) at c.in_err-apply_all.ensures))

pub returns : goal.returns
returns c =
    let applied = rw (c.as_slice-bounds.ensures.value, c.in_ok-bounds.ensures, c.in_ok-table.ensures, c.as_slice.ensures, c.new-none.ensures, c.in_ok-vars.ensures) at c.in_ok-apply_all.ensures in
    bound_called (map placed_seen c.args.placed.now) c.args.vars.now applied.0 c.apply_all.new.vars applied.1
    (map bound_seen c.in_ok-bounds.bounds.items) (rw c.in_ok-table.ensures at c.in_ok-bounds.ensures) c.calls.result
    (rw (c.as_slice-bounds.ensures.value, c.in_ok-table.ensures) at c.calls.ensures)
