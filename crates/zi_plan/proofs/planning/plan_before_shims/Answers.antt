use Rattle.std.proofs.Common.{map, ap, ◌∙◌}
use Rattle.zi_plan.specs.Launches.{shimmed, all_bindings}
use Rattle.zi_plan.specs.Shims.{shims_of, empty_texts}
use Rattle.zi_plan.specs.Steps.{placed_seen}
use Rattle.zi_plan.proofs.PlanLaws.{folder_refused, plan_placed}
use Rattle.zi_plan.proofs.planning.plan_before_shims.Goals as goal

pub returns-in-Err : goal.returns-in-Err
returns-in-Err c =
    folder_refused c.args.selections.now c.args.vars.now c.args.user.now c.args.folders.now (empty_texts (shims_of c.args.selections.now c.args.folders.now)) c.in-Err.fault (rw c.as_slice.ensures at c.in-Err.ensures)

pub returns-in-Ok-empty_shims : goal.returns-in-Ok-empty_shims
returns-in-Ok-empty_shims c =
    let places = rw c.as_slice.ensures at c.in-Ok.ensures in
    let same = ap (map placed_seen) c.as_slice-placed.ensures.value ∙ places.1 in
    plan_placed c.args.selections.now c.args.vars.now c.args.user.now c.args.folders.now (empty_texts (shims_of c.args.selections.now c.args.folders.now)) places.0 (map placed_seen c.as_slice-placed.result.now)
    same c.as_slice-in-Ok-empty_shims.result.now (c.as_slice-in-Ok-empty_shims.ensures ∙ c.in-Ok-empty_shims.ensures ∙ ap (λ ps. empty_texts (shimmed (all_bindings ps))) same) c.launch_placed.result c.launch_placed.ensures
