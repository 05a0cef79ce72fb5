use Rattle.std.proofs.Common.{map, ap, refl, ◌∙◌}
use Rattle.zi_plan.specs.Steps.{placed_seen}
use Rattle.zi_plan.proofs.PlanLaws.{folder_refused, plan_placed}
use Rattle.zi_plan.proofs.planning.plan.Goals as goal

pub returns-in-Err : goal.returns-in-Err
returns-in-Err c =
    folder_refused c.args.selections.now c.args.vars.now c.args.user.now c.args.folders.now c.args.shims.now c.in-Err.fault (rw c.as_slice.ensures at c.in-Err.ensures)

pub returns-in-Ok : goal.returns-in-Ok
returns-in-Ok c =
    let places = rw c.as_slice.ensures at c.in-Ok.ensures in
    plan_placed c.args.selections.now c.args.vars.now c.args.user.now c.args.folders.now c.args.shims.now places.0 (map placed_seen c.as_slice-in-Ok.result.now)
    (ap (map placed_seen) c.as_slice-in-Ok.ensures.value ∙ places.1) c.args.shims.now refl c.launch_placed.result c.launch_placed.ensures
