use Rattle.std.proofs.Common.{◌+◌, map, drop, ap, ◌∙◌, option_map}
use Rattle.zi_plan.specs.Launches.{in_shims, bound_in, binding_fault}
use Rattle.zi_plan.specs.Plans.{fault_by}
use Rattle.zi_plan.specs.Steps.{bound_seen}
use Rattle.zi_plan.proofs.BindingLaws.{unless_memory}
use Rattle.zi_plan.proofs.NextLaws.{at_place, fault_behind, fault_here}
use Rattle.zi_plan.proofs.applying.apply_all.Goals as goal

pub returns-in-Err : goal.returns-in-Err
returns-in-Err c =
    let all = map bound_seen c.args.bounds.now in
    let at = at_place c.args.bounds.now c.loop-bound.bound-index c.bound-item.result c.loop-bound-test.true c.bound-item.is in
    unless_memory c.in-Err.fault
    (λ h. ap (option_map fault_by) (c.loop-bound.invariant.clean ∙ ap binding_fault at) ∙ fault_here (bound_seen c.bound-item.result) (drop (c.loop-bound.bound-index + 1) all) c.in-Err.fault h) c.in-Err.ensures

pub loop-bound-preserved : goal.loop-bound-preserved
loop-bound-preserved c =
    let all = map bound_seen c.args.bounds.now in
    let left = drop (c.loop-bound.bound-index + 1) all in
    let at = at_place c.args.bounds.now c.loop-bound.bound-index c.bound-item.result c.loop-bound-test.true c.bound-item.is in
    record {
      vars = c.loop-bound.invariant.vars ∙ ap (λ bs. bound_in (in_shims bs c.loop-bound.rest.now) c.loop-bound.vars) at ∙ c.in-Ok.ensures.1 left;
      clean = c.loop-bound.invariant.clean ∙ ap binding_fault at ∙ fault_behind (bound_seen c.bound-item.result) left c.in-Ok.ensures.0;
    }
