use Rattle.zi_plan.proofs.planning.check_no_shim.Goals as goal

pub returns : goal.returns
returns c = rw (c.as_slice.ensures.value, c.in_ok-bounds.ensures, c.in_ok-table.ensures) at c.check_all_built.ensures
