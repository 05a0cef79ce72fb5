use Rattle.std.proofs.Common.{◌+◌, map, drop, ap, ◌∙◌}
use Rattle.zi_plan.specs.Launches.{shimmed}
use Rattle.zi_plan.specs.Shims.{unbuilt_shim}
use Rattle.zi_plan.specs.Steps.{bound_seen}
use Rattle.zi_plan.proofs.BindingLaws.{unless_memory}
use Rattle.zi_plan.proofs.NextLaws.{at_place, none_left}
use Rattle.zi_plan.proofs.BareLaws.{shim_here, shim_behind}
use Rattle.zi_plan.proofs.applying.check_all_built.Goals as goal

pub returns-in-Err : goal.returns-in-Err
returns-in-Err c =
    let left = drop (c.loop-bound.bound-index + 1) (map bound_seen c.args.bounds.now) in
    let at = at_place c.args.bounds.now c.loop-bound.bound-index c.bound-item.result c.loop-bound-test.true c.bound-item.is in
    unless_memory c.in-Err.fault
    (λ h. c.loop-bound.invariant ∙ ap (λ bs. unbuilt_shim (shimmed bs)) at ∙ shim_here (bound_seen c.bound-item.result) left c.in-Err.fault h) c.in-Err.ensures

pub loop-bound-preserved : goal.loop-bound-preserved
loop-bound-preserved c =
    let left = drop (c.loop-bound.bound-index + 1) (map bound_seen c.args.bounds.now) in
    let at = at_place c.args.bounds.now c.loop-bound.bound-index c.bound-item.result c.loop-bound-test.true c.bound-item.is in
    c.loop-bound.invariant ∙ ap (λ bs. unbuilt_shim (shimmed bs)) at ∙ shim_behind (bound_seen c.bound-item.result) left c.in-Ok.ensures

pub returns : goal.returns
returns c =
    c.loop-bound.invariant ∙ ap (λ bs. unbuilt_shim (shimmed bs)) (none_left c.args.bounds.now c.loop-bound.bound-index c.loop-bound-test.false)
