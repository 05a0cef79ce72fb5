use Rattle.std.proofs.Common.{map, ap, ◌∙◌}
use Rattle.zi_plan.specs.Steps.{placed_seen}
use Rattle.zi_plan.proofs.CallLaws.{shims_unplaced, shims_placed}
use Rattle.zi_plan.proofs.shims.shim_words.Goals as goal

pub returns-in-Err : goal.returns-in-Err
returns-in-Err c = shims_unplaced c.args.selections.now c.args.vars.now c.args.folders.now c.in-Err.fault (rw c.as_slice.ensures at c.in-Err.ensures)

pub returns : goal.returns
returns c =
    let places = rw c.as_slice.ensures at c.in-Ok.ensures in
    shims_placed c.args.selections.now c.args.vars.now c.args.folders.now places.0 (map placed_seen c.as_slice-2.result.now) (ap (map placed_seen) c.as_slice-2.ensures.value ∙ places.1)
    c.calls_over.result c.calls_over.ensures
