use Rattle.std.proofs.Common.{[], map, ap, ◌∙◌, Ok, Err}
use Rattle.zi_plan.specs.Launches.{shimmed, all_bindings}
use Rattle.zi_plan.specs.Steps.{placed_seen}
use Rattle.zi_plan.proofs.PlanLaws.{folder_refused, plan_placed}
use Rattle.zi_plan.proofs.BareLaws.{bare_refused, bare_unbuilt, bare_built}
use Rattle.zi_plan.proofs.planning.plan_without_shims.Goals as goal

pub returns-in-Err : goal.returns-in-Err
returns-in-Err c =
    bare_refused c.args.selections.now c.args.vars.now c.args.user.now c.args.folders.now c.in-Err.fault
    (folder_refused c.args.selections.now c.args.vars.now c.args.user.now c.args.folders.now [] c.in-Err.fault (rw c.as_slice.ensures at c.in-Err.ensures))

pub returns : goal.returns
returns c =
    let places = rw c.as_slice.ensures at c.in-Ok.ensures in
    let same = ap (map placed_seen) c.as_slice-placed.ensures.value ∙ places.1 in
    bare_refused c.args.selections.now c.args.vars.now c.args.user.now c.args.folders.now c.in-Err-launch_placed.fault
    (plan_placed c.args.selections.now c.args.vars.now c.args.user.now c.args.folders.now [] places.0 (map placed_seen c.as_slice-placed.result.now) same
    c.as_slice-2.result.now (c.as_slice-2.ensures ∙ c.new-none.ensures) (Err c.in-Err-launch_placed.fault) c.in-Err-launch_placed.ensures)

pub returns-in-Ok-launch_placed : goal.returns-in-Ok-launch_placed
returns-in-Ok-launch_placed c =
    let places = rw c.as_slice.ensures at c.in-Ok.ensures in
    let same = ap (map placed_seen) c.as_slice-placed.ensures.value ∙ places.1 in
    bare_unbuilt c.args.selections.now c.args.vars.now c.args.user.now c.args.folders.now c.in-Ok-launch_placed.launch
    (plan_placed c.args.selections.now c.args.vars.now c.args.user.now c.args.folders.now [] places.0 (map placed_seen c.as_slice-placed.result.now) same
    c.as_slice-2.result.now (c.as_slice-2.ensures ∙ c.new-none.ensures) (Ok c.in-Ok-launch_placed.launch) c.in-Ok-launch_placed.ensures)
    (shimmed (all_bindings (map placed_seen c.as_slice-placed.result.now))) (ap (λ ps. shimmed (all_bindings ps)) same) c.in-Err-check_no_shim.fault c.in-Err-check_no_shim.ensures

pub returns-in-Ok-check_no_shim : goal.returns-in-Ok-check_no_shim
returns-in-Ok-check_no_shim c =
    let places = rw c.as_slice.ensures at c.in-Ok.ensures in
    let same = ap (map placed_seen) c.as_slice-placed.ensures.value ∙ places.1 in
    bare_built c.args.selections.now c.args.vars.now c.args.user.now c.args.folders.now c.in-Ok-launch_placed.launch
    (plan_placed c.args.selections.now c.args.vars.now c.args.user.now c.args.folders.now [] places.0 (map placed_seen c.as_slice-placed.result.now) same
    c.as_slice-2.result.now (c.as_slice-2.ensures ∙ c.new-none.ensures) (Ok c.in-Ok-launch_placed.launch) c.in-Ok-launch_placed.ensures)
    (shimmed (all_bindings (map placed_seen c.as_slice-placed.result.now))) (ap (λ ps. shimmed (all_bindings ps)) same) c.in-Ok-check_no_shim.ensures
