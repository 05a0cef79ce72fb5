use Rattle.std.proofs.Common.{sym, ◌∙◌}
use Rattle.zi_plan.specs.Steps.{bound_seen}
use Rattle.zi_plan.proofs.NextLaws.{with_other, next_refused}
use Rattle.zi_plan.proofs.applying.apply_next.Goals as goal

pub returns-in-Ok : goal.returns-in-Ok
returns-in-Ok c = (
  c.in-Ok.ensures.0,
  with_other (bound_seen c.args.bound.now) c.args.shims.now c.args.vars.now c.apply_binding.new.vars (sym c.is_shimmed.ensures ∙ c.if-is_shimmed.false) c.in-Ok.ensures.1,
)

pub returns-in-Err : goal.returns-in-Err
returns-in-Err c =
    next_refused (bound_seen c.args.bound.now) c.args.vars.now c.apply_binding.new.vars c.in-Err.fault c.fault_by.result c.fault_by.ensures c.in-Err.ensures
